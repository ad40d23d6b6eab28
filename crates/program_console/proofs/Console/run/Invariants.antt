-- The octets up to the index are taken, and their rows stand at the front.
use Rattle.program_console.specs.Feed.{progress_of}
use Rattle.program_console.proofs.Feeding.{Taken}
use Rattle.program_console.proofs.Console.run.Given as goal

abbrev pub invariant-loop-octet : goal.invariant-loop-octet
invariant-loop-octet l = Taken (progress_of l.initial.self) l.chunk l.initial.out l.octet-index (progress_of l.self) l.out l.place
