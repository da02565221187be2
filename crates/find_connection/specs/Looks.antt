-- What the look-up of a connection finds: the tests of Path and PathTear, and where the connection and its call stand,
-- in the rules' own words.
use Rattle.std.specs.Prelude.{ℕ, ◌+◌, ◌≤◌, ◌≡◌, List, Bool, Option, cond, ◌&&◌, ◌||◌}
use Rattle.std.specs.Bool.{then_some}
use Rattle.std.specs.Option.{option_or}
use Rattle.lists.specs.Count.{count_if, has}
use Rattle.lists.specs.Below.{below, place_of}
use Rattle.table.specs.Table.{Call, Table}
use Rattle.table.specs.Total.{slots}
use Rattle.table.specs.Lists.{ids_of, entries, Lsp, Held, call_four, held_in, held_at, standalone_at}
use Rattle.table.specs.Rules.{is_lsp}
use Rattle.spec_changes.specs.Calls.{slot_of}
use Rattle.spec_changes.specs.Connections.{same_four, is_under, is_call_of}
use Rattle.spec_calls.specs.PathRules.{under_other}
use Rattle.find_connection.specs.declared.under.UnderLook.{UnderLook}
use Rattle.find_connection.specs.declared.standalone.StandaloneLook.{StandaloneLook}

-- where a connection stands: under which slot's call, with which customer
unfoldable pub under_found_of : Table → Lsp → Option ℕ
under_found_of t x = then_some (has (is_lsp x) (below (held_at t) slots)) (place_of (held_at t) (is_lsp x) slots)

unfoldable pub standalone_found_of : Table → Lsp → Option ℕ
standalone_found_of t x = then_some (has (is_lsp x) (below (standalone_at t) 8)) (place_of (standalone_at t) (is_lsp x) 8)

-- what one list says of a Path's connection, where it counts: whether it has it under another Call ID, whether it has it,
-- how many of its four it has
abbrev pub Matched : Bool → Held → List Held → Bool → Bool → ℕ → Type 0
Matched used x l other held four =
    (other ≡ (used && has (under_other x) l)) × (held ≡ (used && has (is_lsp x.lsp) l)) × (four ≡ cond used (count_if (same_four x) l) 0) × (four ≤ 4)

unfoldable pub under_look_of : Table → Held → UnderLook
under_look_of t x = record {
  other = has (under_other x) (below (held_at t) slots);
  held = has (is_lsp x.lsp) (below (held_at t) slots);
  four = count_if (same_four x) (below (held_at t) slots);
  slot = then_some (has (is_call_of x) (entries t)) (slot_of t (is_call_of x));
}

-- a look with one slot more, where that is used: its call, beside the connection
unfoldable pub under_look_with : UnderLook → ℕ → Bool → Call → Held → UnderLook
under_look_with w i used c x = record {
  other = w.other || (used && has (under_other x) (held_in (call_four c)));
  held = w.held || (used && has (is_lsp x.lsp) (held_in (call_four c)));
  four = w.four + cond used (count_if (same_four x) (held_in (call_four c))) 0;
  slot = option_or w.slot (then_some (used && is_under (ids_of c) x) i);
}

unfoldable pub standalone_look_of : Table → Held → StandaloneLook
standalone_look_of t x = record {
  other = has (under_other x) (below (standalone_at t) 8);
  held = has (is_lsp x.lsp) (below (standalone_at t) 8);
  four = count_if (same_four x) (below (standalone_at t) 8);
}
