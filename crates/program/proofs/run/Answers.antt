-- The output has room for the header and for a row, so the console never refuses them.
use Rattle.std.proofs.Common.{length, arith}
use Rattle.text.specs.Answers.{written}
use Rattle.text.proofs.Outcomes.{written_done, ok_within}
use Rattle.program_rows.specs.Rows.{header_text}
use Rattle.program_console.specs.Feed.{progress_of, last_text}
use Rattle.program.proofs.run.Goals as goal

pub emit-requires : goal.emit-requires
emit-requires g c =
    let output = c.args.memory.now.output in
    let h = c.header-header in
    ok_within (written header_text (length output)) header_text output h.new.out h.result h.ensures.answer (written_done header_text (length output) (omega arith)) h.ensures.memory h.auto.out

pub emit-requires-2 : goal.emit-requires-2
emit-requires-2 g c =
    let output = c.all.new.memory.output in
    let f = c.finish-last in
    let t = last_text (progress_of c.in_ok-console.console) in
    ok_within (written t (length output)) t output f.new.out f.result f.ensures.answer (written_done t (length output) (omega (arith, f.ensures.most))) f.ensures.memory f.auto.out
