-- What an operation on lent output comes to, for every input: octets for the front of the output, or a refusal.
-- A writer or reader is defined as an outcome; its promise is the outcome's two projections, `answer` and `after`.
use Rattle.std.specs.Prelude.{ℕ, List, ◌++◌, length, drop}

-- `done`: the octets handed out, and what else the operation tells. `refused`: document 01's number, and the place
-- (0 where document 01 gives none).
pub data Outcome (A : Type 0) : Type 0 where
  done : List ℕ → A → Outcome A
  refused : ℕ → ℕ → Outcome A

-- the outcome as the caller is told it: of the octets only their count
pub data Answer (A : Type 0) : Type 0 where
  done : ℕ → A → Answer A
  refused : ℕ → ℕ → Answer A

-- the answer of an outcome
abbrev pub answer : {A : Type 0} → Outcome A → Answer A
answer (Outcome.done octets more) = Answer.done (length octets) more
answer (Outcome.refused number place) = Answer.refused number place

-- the whole lent output at exit, of what it was at entry: only the octets handed out are touched, and by a refusal none
abbrev pub after : {A : Type 0} → Outcome A → List ℕ → List ℕ
after (Outcome.done octets more) old = octets ++ drop (length octets) old
after (Outcome.refused number place) old = old

-- the answer by document 01's number, 0 where the operation is done
abbrev pub number_of : {A : Type 0} → Answer A → ℕ
number_of (Answer.done count more) = 0
number_of (Answer.refused number place) = number

-- and the count of octets handed out, 0 by a refusal
abbrev pub count_of : {A : Type 0} → Answer A → ℕ
count_of (Answer.done count more) = count
count_of (Answer.refused number place) = 0
