use Rattle.std.proofs.Common.{arith}
use Rattle.std.proofs.lemmas.Grind.{common_steps}
use Rattle.ep_link.proofs.MacsecReadLemmas.{encrypted_by}
use Rattle.ep_link.proofs.link_ext.macsec_header_slice.MacsecHeaderSlice.ptype.Goals as goal

pub returns-in_default : goal.returns-in_default
returns-in_default c = encrypted_by _ _ (grind (arith, common_steps))
