-- Words of the contracts: the four that stands at a place of the table's words.
use Rattle.std.specs.Prelude.{ℕ, ◌+◌, ◌<◌, ◌≡◌, List, cond, get_or}
use Rattle.table.specs.Table.{Place}
use Rattle.table.specs.Lists.{Four}
use Rattle.table.specs.Words.{places_at_word}
use Rattle.table_words.specs.declared.four_place.FourPlace.{FourPlace}
use Rattle.table_words.specs.declared.fours.PlaceWords.{PlaceWords}

abbrev pub place_of_words : PlaceWords → Place
place_of_words p = record { taken = p.taken; tunnel = p.tunnel.0; extended = p.extended; lsp = p.lsp.0 }

-- the end point is one for all places, or one for each
abbrev pub four_at_word : List ℕ → FourPlace → Four
four_at_word w f = record {
  call = f.call.0;
  sender = f.sender;
  endpoint = λ j. get_or w (f.endpoint + cond f.each j 0) 0;
  places = places_at_word w f.places;
}

-- two fours that show the same
pub record Alike (f g : Four) : Type 0 where
  pub call : f.call ≡ g.call
  pub sender : f.sender ≡ g.sender
  pub endpoint : (j : ℕ) → j < 4 → f.endpoint j ≡ g.endpoint j
  pub places : f.places ≡ g.places
