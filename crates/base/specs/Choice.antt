-- Choices by a test. A chain of checks reads as one `must` for each check, in the order in which they are judged.
use Rattle.std.specs.Prelude.{Bool, true, false}

-- a where the test holds, else b
abbrev pub pick : {A : Type 0} → Bool → A → A → A
pick true a b = a
pick false a b = b

-- where the test holds go on, else the refusal
abbrev pub must : {A : Type 0} → Bool → A → A → A
must true refusal on = on
must false refusal on = refusal

-- both tests hold
abbrev pub both : Bool → Bool → Bool
both true b = b
both false b = false
