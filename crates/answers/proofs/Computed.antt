-- 01's table (Every answer) once more, in its order: number, reply (0 none, 1 a Notify, 2 a PathErr), error code and error
-- value, as the checker computes them. A fault of form has its number in objects/specs/Faults.antt.
-- Assumes nothing.
use Prim.Native.Nat.{ℕ}
use mathlib.Core.Path.{◌≡◌, refl}
use mathlib.Core.List.{List, [], ◌∷◌, map}
use mathlib.Core.Bool.{cond}
use Rattle.answers.specs.declared.answer.Answer.{Answer}
use Rattle.answers.specs.declared.answer.Answer.TheVariants.{TableBroken, BufferTooSmall, SenderNotListed, UnderOtherCall, NotHeld, Late, CallOpened, CallAlreadyOpen, CallClosed, ConnectionAdded, ConnectionAlreadyHeld, ConnectionRemoved, CallIdContention, DuplicateCall, ConnectionsStillExist, UnknownCall, NoShare, PathUnknownCall, NoPlaceLeft}
use Rattle.answers.specs.Answers.{answer_number, error_code, error_value, sends_notify, sends_path_err}

abbrev numbers : Answer → List ℕ
numbers a = answer_number a ∷ cond (sends_notify a) 1 (cond (sends_path_err a) 2 0) ∷ error_code a ∷ error_value a ∷ []

pub unsent : map numbers (TableBroken ∷ BufferTooSmall ∷ SenderNotListed ∷ UnderOtherCall ∷ NotHeld ∷ Late ∷ ConnectionAdded ∷ ConnectionAlreadyHeld ∷ ConnectionRemoved ∷ [])
    ≡ (1 ∷ 0 ∷ 0 ∷ 0 ∷ []) ∷ (2 ∷ 0 ∷ 0 ∷ 0 ∷ []) ∷ (11 ∷ 0 ∷ 0 ∷ 0 ∷ []) ∷ (14 ∷ 0 ∷ 0 ∷ 0 ∷ []) ∷ (15 ∷ 0 ∷ 0 ∷ 0 ∷ []) ∷ (16 ∷ 0 ∷ 0 ∷ 0 ∷ []) ∷ (23 ∷ 0 ∷ 0 ∷ 0 ∷ []) ∷ (24 ∷ 0 ∷ 0 ∷ 0 ∷ []) ∷ (25 ∷ 0 ∷ 0 ∷ 0 ∷ []) ∷ []
unsent = refl

pub sent : map numbers (CallOpened ∷ CallAlreadyOpen ∷ CallClosed ∷ CallIdContention ∷ DuplicateCall ∷ ConnectionsStillExist ∷ UnknownCall ∷ NoShare ∷ PathUnknownCall ∷ NoPlaceLeft ∷ [])
    ≡ (20 ∷ 1 ∷ 0 ∷ 0 ∷ []) ∷ (21 ∷ 1 ∷ 0 ∷ 0 ∷ []) ∷ (22 ∷ 1 ∷ 0 ∷ 0 ∷ []) ∷ (30 ∷ 1 ∷ 32 ∷ 1 ∷ []) ∷ (31 ∷ 1 ∷ 32 ∷ 4 ∷ []) ∷ (32 ∷ 1 ∷ 32 ∷ 2 ∷ []) ∷ (33 ∷ 1 ∷ 32 ∷ 3 ∷ [])
    ∷ (34 ∷ 1 ∷ 2 ∷ 0 ∷ []) ∷ (35 ∷ 2 ∷ 32 ∷ 3 ∷ []) ∷ (37 ∷ 2 ∷ 2 ∷ 0 ∷ []) ∷ []
sent = refl
