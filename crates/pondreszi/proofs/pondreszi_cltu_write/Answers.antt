-- What `write` answered, told by `told_written`.
use Rattle.pondreszi_numbers.proofs.Told.{told_by_lem}
use Rattle.pondreszi.proofs.pondreszi_cltu_write.Goals as goal

pub returns : goal.returns
returns c = let p = told_by_lem (c.write.ensures.answer, c.write.ensures.memory) (c.told_written.ensures.number, c.told_written.ensures.counted) in record { number = p.0; memory = p.1.0; told = p.1.1 }
