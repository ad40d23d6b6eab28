-- What the sender's state has room for, by name.
use Rattle.std.specs.Prelude.{ℕ}

-- the responses that one event can give
abbrev pub largest_responses : ℕ
largest_responses = 4
