-- Words of the contracts: the keys that are noted.
use Rattle.std.specs.Prelude.{ℕ, List, take}
use Rattle.rule_keys.specs.declared.chains.Noted.{Noted}

abbrev pub noted_keys : Noted → List ℕ
noted_keys a = take a.count a.keys
