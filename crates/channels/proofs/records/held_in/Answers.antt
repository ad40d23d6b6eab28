-- The library's sum is the definition's.
use Rattle.std.proofs.Common.{rules, ◌≡◌, ◌∙◌}
use Rattle.std.specs.List.{sum_by}
use Rattle.receiver.specs.declared.Channel.{Channel}
use Rattle.channels.proofs.Found.{held_is}
use Rattle.channels.proofs.records.held_in.Goals as goal

pub returns : goal.returns
returns c =
    let cs = c.args.records.now in
    let all : c.sum.result ≡ sum_by (λ (channel : Channel). channel.held) cs = search rules in
    all ∙ held_is cs
