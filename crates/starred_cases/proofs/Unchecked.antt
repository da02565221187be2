-- The rows, run without testing the table rules: along a run from a roster, accepted or refused, they hold at every step, so
-- that the test changes nothing. What is computed this way is therefore true of `handled`.
-- Assumes nothing.
use Prim.Native.Nat.{ℕ, ◌/◌}
use native.Mathlib.Omega.{arith}
use mathlib.Core.Path.{◌≡◌, refl, ap, ◌∙◌}
use mathlib.Core.List.{List, [], ◌∷◌, map}
use mathlib.Core.Bool.{Bool, true, false, cond, ◌&&◌}
use lib.Dec.{ltb, eqb}
use lib.ListN.{length, replicate}
use borrow.Author.Tests.{eqb-true, ltb-true}
use Rattle.numbers.specs.BigEndian.{Bytes}
use Rattle.numbers.proofs.BigEndian.{EachByte, each_byte}
use Rattle.lists.proofs.Tests.{both}
use Rattle.lists.proofs.Below.{below_none}
use Rattle.reply_objects.specs.Buffer.{least_buffer}
use Rattle.table.specs.Table.{Table}
use Rattle.table.specs.Zeros.{empty_table}
use Rattle.table.specs.Lists.{Entry, open_at, entries}
use Rattle.table.specs.Roster.{roster_number, roster_answer, fresh_table, table_for}
use Rattle.table.proofs.Slots.{none_used, open_rest}
use Rattle.table.proofs.Fresh.{zero_at, empty_holds}
use Rattle.spec_changes.specs.Expiry.{raised, closings_of, elapsed}
use Rattle.spec_changes.proofs.Fresh.{empty_shape}
use Rattle.answers.specs.Answers.{answer_number}
use Rattle.spec_calls.specs.Handling.{answered_in, Handled, handled_after, handled}
use Rattle.spec_promises.specs.Promises.{Agrees}
use Rattle.spec_promises.proofs.Step.{step_agrees}
use Rattle.spec_promises.proofs.Demand3.{accepted, fresh_agrees}
use Rattle.starred_cases.specs.Run.{StepTo, at_rest, table_through, result_then, results_through}
use Rattle.starred_cases.specs.TwoCustomers.{StarredCase, begin, ask, buffer, outcome_of, asked, outcomes}
use Rattle.starred_cases.specs.Lapses.{LapseCase, then_lapse, lapses_from}
use Rattle.starred_cases.specs.Replies.{ReplyCase, replied_of, before, replied}
use Rattle.starred_cases.specs.PaddedNames.{PaddedCase, then_rest, results_from}

-- tests 2 to 13 and 16 and the rules, without test 1
abbrev pub unchecked_at : ℕ → ℕ → StepTo Handled
unchecked_at time period t s buffer =
    cond (ltb (length buffer) least_buffer) (handled_after [] (answered_in t s buffer))
    (handled_after (closings_of (raised t time) period) (answered_in (elapsed t time period) s buffer))

abbrev pub unchecked : StepTo Handled
unchecked = unchecked_at 0 0

-- ---- byte strings, by a test

abbrev pub is_bytes : List ℕ → Bool
is_bytes [] = true
is_bytes (a ∷ s) = ltb a 256 && is_bytes s

bytes_are : (s : List ℕ) → is_bytes s ≡ true → Bytes s
bytes_are s h = each_byte s (each s h)
  where
    each : (s : List ℕ) → is_bytes s ≡ true → EachByte s
    each [] h = tt
    each (a ∷ s) h = let k = both (ltb a 256) (is_bytes s) h in (ltb-true a 256 k.0, each s k.1)

abbrev pub all_bytes : List (List ℕ) → Bool
all_bytes [] = true
all_bytes (s ∷ l) = is_bytes s && all_bytes l

-- ---- one message

-- a table on which the test may be left out: it agrees with some ledger
abbrev pub Sound : Table → Type 0
Sound t = (l : List Entry) × Agrees t l

pub same_at : (time period : ℕ) (t : Table) → Sound t → (s b : List ℕ) → handled t s b time period ≡ unchecked_at time period t s b
same_at time period t g s b = rw g.1.rules

pub sound_at_lem : (time period : ℕ) (t : Table) → Sound t → (s b : List ℕ) → is_bytes s ≡ true → Sound (handled t s b time period).table
sound_at_lem time period t g s b h = (_, step_agrees t g.0 g.1 (record { message = s; bytes = bytes_are s h; buffer = b; time = time; period = period }))

step_same : (t : Table) → Sound t → (s b : List ℕ) → at_rest t s b ≡ unchecked t s b
step_same = same_at 0 0

step_sound : (t : Table) → Sound t → (s b : List ℕ) → is_bytes s ≡ true → Sound (at_rest t s b).table
step_sound = sound_at_lem 0 0

-- ---- some messages

pub through_same : (b : List ℕ) (l : List (List ℕ)) (t : Table) → Sound t → all_bytes l ≡ true
    → (table_through at_rest b t l ≡ table_through unchecked b t l) × Sound (table_through at_rest b t l)
through_same b [] t g h = (refl, g)
through_same b (s ∷ l) t g h =
    let k = both (is_bytes s) (all_bytes l) h in
    let i = through_same b l (at_rest t s b).table (step_sound t g s b k.0) k.1 in
    (i.0 ∙ ap (λ x. table_through unchecked b x.table l) (step_same t g s b), i.1)

pub results_same : {A : Type 0} (f : Handled → A) (b : List ℕ) (l : List (List ℕ)) (t : Table) → Sound t → all_bytes l ≡ true
    → results_through f at_rest b t l ≡ results_through f unchecked b t l
results_same f b [] t g h = refl
results_same f b (s ∷ l) t g h =
    let k = both (is_bytes s) (all_bytes l) h in
    let x = at_rest t s b in
    ap (λ rest. result_then f x (λ u. rest)) (results_same f b l x.table (step_sound t g s b k.0) k.1)
    ∙ ap (λ y. result_then f y (λ u. results_through f unchecked b u l)) (step_same t g s b)

-- ---- the table of a roster's bytes

no_calls : entries empty_table ≡ []
unfolding empty_table
no_calls = open_rest empty_table 0 (omega arith) (λ i a b. none_used (replicate 4 0) i (zero_at 4 (i / 64))) ∙ below_none (open_at empty_table)

pub empty_sound : Sound empty_table
empty_sound = ([], record { shape = empty_shape; rules = empty_holds; calls = λ p. rw no_calls })

pub roster_sound : (s : List ℕ) → is_bytes s ≡ true → Sound (table_for (roster_answer s) s)
unfolding table_for
roster_sound s h = by (eqb (roster_number (roster_answer s)) 0) refl
  where
    by : (b : Bool) → eqb (roster_number (roster_answer s)) 0 ≡ b → Sound (cond b (fresh_table s) empty_table)
    by true e = ([], fresh_agrees s (bytes_are s h) (accepted (roster_answer s) (eqb-true _ _ e)))
    by false e = empty_sound

-- ---- the rows

abbrev pub row_bytes : StarredCase → Bool
row_bytes (begin bytes outcome) = is_bytes bytes
row_bytes (ask earlier message outcome) = is_bytes message && all_bytes earlier

abbrev pub rows_bytes : List StarredCase → Bool
rows_bytes [] = true
rows_bytes (c ∷ rows) = row_bytes c && rows_bytes rows

pub outcomes_same : (rows : List StarredCase) (t : Table) → Sound t → rows_bytes rows ≡ true → outcomes at_rest t rows ≡ outcomes unchecked t rows
outcomes_same [] t g h = refl
outcomes_same (begin bytes outcome ∷ rows) t g h =
    let k = both (is_bytes bytes) (rows_bytes rows) h in
    let u = table_for (roster_answer bytes) bytes in
    ap (λ rest. outcome_of (roster_number (roster_answer bytes)) t u ∷ rest) (outcomes_same rows u (roster_sound bytes k.0) k.1)
outcomes_same (ask earlier message outcome ∷ rows) t g h =
    let k = both (is_bytes message && all_bytes earlier) (rows_bytes rows) h in
    let m = both (is_bytes message) (all_bytes earlier) k.0 in
    let i = through_same buffer earlier t g m.1 in
    let v = table_through at_rest buffer t earlier in
    let x = at_rest v message buffer in
    ap (λ rest. outcome_of (answer_number x.answer) v x.table ∷ rest) (outcomes_same rows x.table (step_sound v i.1 message buffer m.0) k.1)
    ∙ ap (λ y. asked v y (λ u. outcomes unchecked u rows)) (step_same v i.1 message buffer)
    ∙ ap (λ w. asked w (unchecked w message buffer) (λ u. outcomes unchecked u rows)) i.0

-- ---- the replies

abbrev pub reply_bytes : List ReplyCase → Bool
reply_bytes [] = true
reply_bytes (c ∷ rows) = is_bytes c.roster && all_bytes c.earlier && reply_bytes rows

pub replies_same : (rows : List ReplyCase) → reply_bytes rows ≡ true → map (replied at_rest) rows ≡ map (replied unchecked) rows
replies_same [] h = refl
replies_same (c ∷ rows) h =
    let k = both (is_bytes c.roster && all_bytes c.earlier) (reply_bytes rows) h in
    let m = both (is_bytes c.roster) (all_bytes c.earlier) k.0 in
    let t = table_for (roster_answer c.roster) c.roster in
    let i = through_same before c.earlier t (roster_sound c.roster m.0) m.1 in
    let one : replied at_rest c ≡ replied unchecked c =
    ap replied_of (step_same (table_through at_rest before t c.earlier) i.1 c.message before ∙ ap (λ u. unchecked u c.message before) i.0) in
    rw (one, replies_same rows k.1)

-- ---- the padded names

abbrev pub padded_bytes : List PaddedCase → Bool
padded_bytes [] = true
padded_bytes (c ∷ rows) = is_bytes c.message && padded_bytes rows

pub padded_same : (rows : List PaddedCase) (t : Table) → Sound t → padded_bytes rows ≡ true → results_from at_rest t rows ≡ results_from unchecked t rows
padded_same [] t g h = refl
padded_same (c ∷ rows) t g h =
    let k = both (is_bytes c.message) (padded_bytes rows) h in
    let x = at_rest t c.message buffer in
    ap (λ rest. then_rest t x (λ u. rest)) (padded_same rows x.table (step_sound t g c.message buffer k.0) k.1)
    ∙ ap (λ y. then_rest t y (λ u. results_from unchecked u rows)) (step_same t g c.message buffer)

-- ---- calls that nobody refreshes

abbrev pub lapse_bytes : List LapseCase → Bool
lapse_bytes [] = true
lapse_bytes (c ∷ rows) = is_bytes c.message && lapse_bytes rows

pub lapses_same : (rows : List LapseCase) (t : Table) → Sound t → lapse_bytes rows ≡ true
    → lapses_from (λ time period t s buffer. handled t s buffer time period) t rows ≡ lapses_from unchecked_at t rows
lapses_same [] t g h = refl
lapses_same (c ∷ rows) t g h =
    let k = both (is_bytes c.message) (lapse_bytes rows) h in
    let b : List ℕ = replicate c.room 0 in
    let x = handled t c.message b c.time c.period in
    ap (λ rest. then_lapse x (λ u. rest)) (lapses_same rows x.table (sound_at_lem c.time c.period t g c.message b k.0) k.1)
    ∙ ap (λ y. then_lapse y (λ u. lapses_from unchecked_at u rows)) (same_at c.time c.period t g c.message b)
