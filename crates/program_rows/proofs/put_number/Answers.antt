use Rattle.std.proofs.Common.{ap, ◌∙◌, ◌++◌, replicate, length, arith}
use Rattle.text.specs.Buffer.{standing}
use Rattle.text.specs.Decimal.{decimal}
use Rattle.text.proofs.Buffers.{put_fits}
use Rattle.text.proofs.Decimals.{length_octet}
use Rattle.text.proofs.Outcomes.{told_ok, told_text}
use Rattle.program_rows.proofs.put_number.Goals as goal

pub unreachable-requires : goal.unreachable-requires
unreachable-requires c =
    let n = c.from.result in
    c.in_default.not-Ok _ (told_ok (decimal n) 3 c.write.result (length_octet n (omega (arith, c.from.ensures))) c.write.ensures.answer)

pub returns-clause-text : goal.returns-clause-text
returns-clause-text c =
    let n = c.from.result in
    let w = c.write in
    let t =
    told_text (decimal n) (replicate 3 0) w.new.out w.result c.in-Ok.count (length_octet n (omega (arith, c.from.ensures))) w.ensures.answer c.in-Ok.is w.ensures.memory
    ∙ ap decimal c.from.ensures in
    let old = standing c.args.row.now in
    c.put.ensures
    ∙ put_fits 20 old _ (omega (arith, c.requires, ap length t, length_octet c.args.number (omega arith)))
    ∙ ap (λ octets. old ++ octets) t
