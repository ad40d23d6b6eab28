use Rattle.std.proofs.Common.{ap, Ok, arith}
use Rattle.program_console.specs.Feed.{progress_of}
use Rattle.program_console.proofs.Feeding.{taken_none, never_refused, taken_on, taken_all}
use Rattle.program_console.proofs.Console.run.Goals as goal

pub loop-octet-init : goal.loop-octet-init
loop-octet-init c = taken_none (progress_of c.args.self.now) c.args.chunk.now c.args.out.now

pub returns-in_err-count : goal.returns-in_err-count
returns-in_err-count c =
    let a = c.args in
    let l = c.loop-octet in
    let s = c.step in
    absurd (never_refused (progress_of a.self.now) a.chunk.now a.out.now c.requires l.octet-index (progress_of l.self) l.out l.place c.loop-octet-test.true l.auto.out l.invariant
    s.result s.ensures.most s.ensures.answer _ c.in_err-count.was)

pub loop-octet-preserved : goal.loop-octet-preserved
loop-octet-preserved c =
    let a = c.args in
    let l = c.loop-octet in
    let s = c.step in
    taken_on (progress_of a.self.now) a.chunk.now a.out.now c.requires l.octet-index (progress_of l.self) l.out l.place c.loop-octet-test.true l.auto.out l.invariant
    s.result s.ensures.most s.ensures.answer c.in_ok-count.count c.in_ok-count.was s.new.out s.ensures.memory (progress_of s.new.self) s.ensures.next

pub returns : goal.returns
returns c =
    let a = c.args in
    let l = c.loop-octet in
    let t = taken_all (progress_of a.self.now) a.chunk.now a.out.now l.octet-index (progress_of l.self) l.out l.place (omega arith) l.invariant in
    record { count = ap (λ place. Ok place) t.0; memory = t.1; next = t.2 }
