use Rattle.base.proofs.Register.{octet_shifted, octets_shifted}
use Rattle.fecf.specs.Fecf.{fecf_of}
use Rattle.fecf.proofs.fecf_by_table.Goals as goal

pub loop-octet-preserved : goal.loop-octet-preserved
loop-octet-preserved c = octet_shifted c.loop-octet.invariant c.loop-octet-test.true c.shift_octet-register.ensures

pub returns : goal.returns
unfolding fecf_of
returns c = octets_shifted c.loop-octet.invariant c.loop-octet-test.false
