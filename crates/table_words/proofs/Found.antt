-- What stands where `call_four` and `customer_four` point is the call's four, the customer's.
-- Assumes nothing.
use Prim.Native.Nat.{ℕ, ◌+◌, ◌<◌}
use native.Mathlib.Omega.{arith}
use mathlib.Core.Path.{refl, sym, ap, ◌∙◌}
use mathlib.Core.List.{List}
use mathlib.Core.Bool.{true, false}
use lib.ListN.{get_or}
use Rattle.table.specs.Total.{slots}
use Rattle.table.specs.Lists.{call_at, customer_at, call_four, customer_four}
use Rattle.table.specs.Words.{call_start, customer_start, table_of}
use Rattle.table.proofs.Cells.{call_at_lem, customer_at_lem, endpoint_at_lem}
use Rattle.table_words.specs.declared.four_place.FourPlace.{FourPlace}
use Rattle.table_words.specs.Fours.{four_at_word, Alike}

module _ (w : List ℕ) (i : ℕ) (l : i < slots) where
  abbrev pub call_four_place : FourPlace
  call_four_place = record {
    call = record { 0 = get_or w (call_start i + 5) 0 };
    sender = get_or w (call_start i + 1) 0;
    endpoint = call_start i;
    each = false;
    places = call_start i + 16;
    endpoint_inside = omega arith;
    places_inside = omega arith;
  }

  pub call_four_lem : Alike (four_at_word w call_four_place) (call_four (call_at (table_of w) i))
  call_four_lem =
      let e = call_at_lem w i l in record {
        call = sym (ap (λ c. c.id) e);
        sender = sym (ap (λ c. c.sender) e);
        endpoint = λ j m. ap (λ (n : ℕ). get_or w n 0) (omega arith) ∙ sym (ap (λ c. c.endpoint) e);
        places = sym (ap (λ c. c.places) e);
      }

module _ (w : List ℕ) (k : ℕ) (l : k < 8) where
  abbrev pub customer_four_place : FourPlace
  customer_four_place = record {
    call = record { 0 = 0 };
    sender = get_or w (customer_start k + 0) 0;
    endpoint = customer_start k + 6;
    each = true;
    places = customer_start k + 10;
    endpoint_inside = omega arith;
    places_inside = omega arith;
  }

  pub customer_four_lem : Alike (four_at_word w customer_four_place) (customer_four (customer_at (table_of w) k))
  customer_four_lem =
      let e = customer_at_lem w k l in record {
        call = refl;
        sender = ap (λ (n : ℕ). get_or w n 0) (omega arith) ∙ sym (ap (λ c. c.address) e);
        endpoint = λ j m. sym (ap (λ c. get_or c.endpoints j 0) e ∙ endpoint_at_lem w (customer_start k) j m);
        places = sym (ap (λ c. c.places) e);
      }
