-- `name::made_name_words` meets its contract.
use Rattle.make_ids.proofs.Words.{made_front}
use Rattle.make_ids.proofs.name.made_name_words.Goals as goal

pub returns : goal.returns
returns c = made_front _ _ _ c.pair_digits-p.ensures _ _ c.four_digits-number.ensures
