-- Document 01, "Refusals": the table's numbers, and the place that 1 to 3 return.
use Rattle.std.specs.Prelude.{ℕ, Result, Ok, Err, eqb, Option, Some, None}
use Rattle.base.specs.Choice.{pick}
use Rattle.base.specs.Outcome.{Answer, Answer.done, Answer.refused}
use Rattle.base.specs.declared.Refusal.{Refusal}
use Rattle.base.specs.declared.Refusal.TheVariants.{NoStart, NoBlock, NoEnd, Short, Fill, Header, Address, Check, Command, Length, Room, Setting, Release}

-- the number of a refusal
abbrev pub refusal_number : Refusal → ℕ
refusal_number (NoStart place) = 1
refusal_number (NoBlock place) = 2
refusal_number (NoEnd place) = 3
refusal_number Short = 4
refusal_number Fill = 5
refusal_number Header = 6
refusal_number Address = 7
refusal_number Check = 8
refusal_number Command = 9
refusal_number Length = 10
refusal_number Room = 11
refusal_number Setting = 12
refusal_number Release = 13

-- the place that it returns, 0 where it returns none
abbrev pub refusal_place : Refusal → ℕ
refusal_place (NoStart place) = place
refusal_place (NoBlock place) = place
refusal_place (NoEnd place) = place
refusal_place Short = 0
refusal_place Fill = 0
refusal_place Header = 0
refusal_place Address = 0
refusal_place Check = 0
refusal_place Command = 0
refusal_place Length = 0
refusal_place Room = 0
refusal_place Setting = 0
refusal_place Release = 0

-- the number of a refusal where there is one, else 0
abbrev pub optional_number : Option Refusal → ℕ
optional_number (Some refusal) = refusal_number refusal
optional_number None = 0

-- the number of an answer in code: 0 where it is no refusal
abbrev pub result_number : {A : Type 0} → Result A Refusal → ℕ
result_number (Ok a) = 0
result_number (Err refusal) = refusal_number refusal

-- what writing answers in code: the count of octets, or a refusal
abbrev pub written_answer : Result ℕ Refusal → Answer (Unit {0})
written_answer (Ok count) = done count tt
written_answer (Err refusal) = refused (refusal_number refusal) (refusal_place refusal)

-- the refusal of a frame by its number, 4 to 9 (any other number is taken for 9)
abbrev pub frame_refusal : ℕ → Refusal
frame_refusal number =
    pick (eqb number 4) Short
    (pick (eqb number 5) Fill
    (pick (eqb number 6) Header
    (pick (eqb number 7) Address
    (pick (eqb number 8) Check Command))))

-- an answer in code by the number of a frame's refusal: what there is where that is 0
abbrev pub by_number : {A : Type 0} → ℕ → A → Result A Refusal
by_number number a = pick (eqb number 0) (Ok a) (Err (frame_refusal number))
