-- `rules_hold` meets its contract: each part tests some of the rules, and where no two keys are equal nothing stands
-- twice.
use mathlib.Core.Bool.{Bool, true, false, ◌&&◌, and-false}
use mathlib.Core.Path.{◌≡◌, refl, sym, ap₂, ◌∙◌}
use Rattle.lists.proofs.Tests.{both}
use Rattle.table.specs.Table.{Table}
use Rattle.table.specs.Rules.{holds, roster_acceptable, slots_within_total, senders_listed, within_limits, share_within_total, short_ids_once, long_ids_once, requests_once, names_and_ids, refreshes_past, connections_once, free_holds_zeros, rules_hold}
use Rattle.table.specs.Words.{table_of}
use Rattle.rule_keys.proofs.SameKey.{keys_say}
use Rattle.rules.proofs.rules_hold.Goals as goal

-- the rules in the order in which they stand, and in the order in which they are tested
regrouped : (r l w h a b q n p c z : Bool) → (r && l && w && h && a && b && q && n && p && c && z) ≡ (r && (n && p && z) && (l && w && h && (a && b && q && c)))
regrouped false l w h a b q n p c z = refl
regrouped true false w h a b q n p c z = sym (and-false (n && p && z))
regrouped true true false h a b q n p c z = sym (and-false (n && p && z))
regrouped true true true false a b q n p c z = sym (and-false (n && p && z))
regrouped true true true true false b q n p c z = sym (and-false (n && p && z))
regrouped true true true true true false q n p c z = sym (and-false (n && p && z))
regrouped true true true true true true false n p c z = sym (and-false (n && p && z))
regrouped true true true true true true true true true c z = by c z
  where
    by : (c z : Bool) → (c && z) ≡ (z && c)
    by true true = refl
    by true false = refl
    by false true = refl
    by false false = refl
regrouped true true true true true true true true false c z = refl
regrouped true true true true true true true false p c z = refl

all_three : {a b c x y z : Bool} → a ≡ x → b ≡ y → c ≡ z → (a && b && c) ≡ (x && y && z)
all_three p q r = rw (p, q, r)

-- the rules in three groups: roster, slots, names, refreshes and zeros; counts; nothing stands twice
module _ (t : Table) where
  abbrev tidy : Bool
  tidy = holds roster_acceptable t && holds slots_within_total t && (holds names_and_ids t && holds refreshes_past t && holds free_holds_zeros t)

  abbrev within : Bool
  within = holds senders_listed t && holds within_limits t && holds share_within_total t

  abbrev once : Bool
  once = holds short_ids_once t && holds long_ids_once t && holds requests_once t && holds connections_once t

  rules_are : rules_hold t ≡ (tidy && (within && once))
  unfolding rules_hold
  rules_are =
      regrouped (holds roster_acceptable t && holds slots_within_total t) (holds senders_listed t) (holds within_limits t) (holds share_within_total t) (holds short_ids_once t) (holds long_ids_once t) (holds requests_once t) (holds names_and_ids t)
      (holds refreshes_past t) (holds connections_once t) (holds free_holds_zeros t)

  untidy : tidy ≡ false → false ≡ rules_hold t
  untidy h = sym (rw (rules_are, h))

  over : tidy ≡ true → within ≡ false → false ≡ rules_hold t
  over h k = sym (rw (rules_are, h, k))

  left_over : (b : Bool) → tidy ≡ true → within ≡ true → b ≡ once → b ≡ rules_hold t
  left_over b h k e = rw (rules_are, h, k) e

pub returns-then-not-roster_holds-slots_within_total : goal.returns-then-not-roster_holds-slots_within_total
returns-then-not-roster_holds-slots_within_total c =
    let t = table_of c.args.t.now in
    untidy t (sym (all_three c.roster_holds.ensures c.slots_within_total.ensures c.names_and_zeros.ensures) ∙ c.if-not-roster_holds-slots_within_total.true)

pub shares_hold-requires : goal.shares_hold-requires
shares_hold-requires c =
    let first = both c.roster_holds.result c.slots_within_total.result (both _ _ (c.if-not-roster_holds-slots_within_total.false)).0 in
    (sym c.roster_holds.ensures ∙ first.0, sym c.slots_within_total.ensures ∙ first.1)

pub returns-then-not-shares_hold : goal.returns-then-not-shares_hold
returns-then-not-shares_hold c =
    let t = table_of c.args.t.now in
    over t (sym (all_three c.roster_holds.ensures c.slots_within_total.ensures c.names_and_zeros.ensures) ∙ c.if-not-roster_holds-slots_within_total.false)
    (sym c.shares_hold.ensures ∙ c.if-not-shares_hold.true)

pub returns-then-keys_apart : goal.returns-then-keys_apart
returns-then-keys_apart c =
    let w = c.args.t.now in
    let t = table_of w in
    let tidy = both (c.roster_holds.result && c.slots_within_total.result) c.names_and_zeros.result (c.if-not-roster_holds-slots_within_total.false) in
    let zeros = (both (holds names_and_ids t && holds refreshes_past t) (holds free_holds_zeros t) (sym c.names_and_zeros.ensures ∙ tidy.1)).1 in
    let k = keys_say w zeros (c.keys_apart.ensures c.if-keys_apart.true) in
    left_over t true (sym (all_three c.roster_holds.ensures c.slots_within_total.ensures c.names_and_zeros.ensures) ∙ c.if-not-roster_holds-slots_within_total.false)
    (sym c.shares_hold.ensures ∙ c.if-not-shares_hold.false) (sym (rw (k.0, k.1, k.2, k.3)))

pub ids_once-requires : goal.ids_once-requires
ids_once-requires c =
    let tidy = both (c.roster_holds.result && c.slots_within_total.result) c.names_and_zeros.result (c.if-not-roster_holds-slots_within_total.false) in
    let t = table_of c.args.t.now in
    let zeros = both (holds names_and_ids t && holds refreshes_past t) (holds free_holds_zeros t) (sym c.names_and_zeros.ensures ∙ tidy.1) in
    ((both (holds names_and_ids t) (holds refreshes_past t) zeros.0).0, zeros.1)

pub connections_once-requires : goal.connections_once-requires
connections_once-requires c =
    let t = table_of c.args.t.now in
    let counts = sym c.shares_hold.ensures ∙ c.if-not-shares_hold.false in
    let first = both c.roster_holds.result c.slots_within_total.result (both _ _ (c.if-not-roster_holds-slots_within_total.false)).0 in
    (sym c.roster_holds.ensures ∙ first.0, (both (holds senders_listed t) (holds within_limits t) (both (holds senders_listed t && holds within_limits t) (holds share_within_total t) counts).0).0)

pub returns : goal.returns
returns c =
    let t = table_of c.args.t.now in
    left_over t _ (sym (all_three c.roster_holds.ensures c.slots_within_total.ensures c.names_and_zeros.ensures) ∙ c.if-not-roster_holds-slots_within_total.false)
    (sym c.shares_hold.ensures ∙ c.if-not-shares_hold.false)
    (ap₂ (λ (a b : Bool). a && b) c.ids_once.ensures c.connections_once.ensures)
