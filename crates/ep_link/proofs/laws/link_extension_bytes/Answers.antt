use Rattle.ep_link.proofs.LinkExtensionLemmas.{extension_bytes}
use Rattle.ep_link.proofs.laws.link_extension_bytes.Goals as goal

pub returns : goal.returns
returns c = extension_bytes
