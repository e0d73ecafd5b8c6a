use Rattle.ep_link.proofs.LinkExtensionLemmas.{extension_len}
use Rattle.ep_link.proofs.laws.link_extension_len.Goals as goal

pub returns : goal.returns
returns c = extension_len
