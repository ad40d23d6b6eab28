-- The output has room for the rows of what is read, so the console never refuses it.
use Rattle.std.proofs.Common.{◌≤◌, ◌*◌, length, take, length-take, arith}
use Rattle.text.proofs.Outcomes.{ok_within}
use Rattle.program_rows.specs.Rows.{row_room}
use Rattle.program_console.specs.Feed.{progress_of, chunk_text, feeding}
use Rattle.program_console.proofs.Feeding.{fed_done}
use Rattle.program.proofs.some.Goals as goal

pub emit-requires : goal.emit-requires
emit-requires g c =
    let output = c.args.memory.now.output in
    let chunk = take c.in_ok-count.count c.read.new.buf in
    let f = c.feed-fed in
    let p = progress_of c.args.console in
    let h : length chunk * row_room ≤ length output = omega (arith, length-take c.in_ok-count.count c.read.new.buf) in
    ok_within (feeding p chunk (length output)) (chunk_text p chunk) output f.new.out f.result.written f.ensures.answer (fed_done p chunk (length output) h) f.ensures.memory f.auto.out
