-- How the rows are run: message after message, on the table that the one before left.
use Rattle.std.specs.Prelude.{ℕ, List, [], ◌∷◌}
use Rattle.table.specs.Table.{Table}
use Rattle.spec_calls.specs.Handling.{Handled, handled}

-- what handles a message, from table, message and reply buffer: `at_rest` in every claim. The proofs also run the rows by
-- one that does not test the table rules, which costs the checker less, and show that it comes to the same.
abbrev pub StepTo : Type 0 → Type 0
StepTo A = Table → List ℕ → List ℕ → A

-- where no time passes: time and period are 0, as the tap hands them in
abbrev pub at_rest : StepTo Handled
at_rest t s buffer = handled t s buffer 0 0

-- the table after some messages, each with the same buffer
abbrev pub table_through : StepTo Handled → List ℕ → Table → List (List ℕ) → Table
table_through step buffer t [] = t
table_through step buffer t (s ∷ l) = table_through step buffer (step t s buffer).table l

-- what some messages come to, one after another, each with the same buffer
abbrev pub result_then : {A : Type 0} → (Handled → A) → Handled → (Table → List A) → List A
result_then f h rest = f h ∷ rest h.table

abbrev pub results_through : {A : Type 0} → (Handled → A) → StepTo Handled → List ℕ → Table → List (List ℕ) → List A
results_through f step buffer t [] = []
results_through f step buffer t (s ∷ l) = result_then f (step t s buffer) (λ u. results_through f step buffer u l)
