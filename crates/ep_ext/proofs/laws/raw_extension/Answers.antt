use Rattle.ep_base.proofs.TableLemmas.{decided}
use Rattle.ep_ext.proofs.RawExtensionLemmas.{raw_extension_is_read}
use Rattle.ep_ext.proofs.laws.raw_extension.Goals as goal

pub returns : goal.returns
returns c = decided raw_extension_is_read
