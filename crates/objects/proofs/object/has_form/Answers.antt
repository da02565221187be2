-- `object::has_form` meets its contract, by what `has_form` says.
use mathlib.Core.Path.{refl}
use Rattle.objects.specs.Forms.{has_form}
use Rattle.objects.proofs.object.has_form.Goals as goal

pub returns : goal.returns
unfolding has_form
returns c = refl
