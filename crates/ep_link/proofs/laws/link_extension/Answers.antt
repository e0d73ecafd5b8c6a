use Rattle.ep_link.proofs.LinkExtensionLemmas.{cases_begins, extension_begins, extension_decided, refused_begins}
use Rattle.ep_link.proofs.laws.link_extension.Goals as goal

pub returns : goal.returns
returns c =
    record { cases = cases_begins; decided = extension_decided; begins = extension_begins; refused = refused_begins }
