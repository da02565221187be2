-- A request's long Call ID is as long as the message says.
-- Assumes nothing.
use Prim.Native.Nat.{ℕ}
use native.Mathlib.Omega.{arith}
use mathlib.Core.Path.{◌≡◌}
use mathlib.Core.List.{List}
use lib.ListN.{length, length-take, length-drop}
use Rattle.objects.specs.Part.{Within}
use Rattle.messages.specs.declared.message.CallRequest.{CallRequest}
use Rattle.spec_calls.specs.CallRules.{ids_in}

pub name_size : (s : List ℕ) (q : CallRequest) → Within s q.name → length (ids_in s q).long ≡ q.name.size
name_size s q h = simp (length-take, length-drop) (omega arith)
