use Rattle.text.proofs.Tens.{digits_told}
use Rattle.text.proofs.digits.Goals as goal

pub returns : goal.returns
returns c =
    let e = c.checked_ilog10.ensures in
    rw c.unwrap_or.ensures (digits_told c.args.n c.checked_ilog10.result e.none e.power_le e.next_power_gt e.bound)
