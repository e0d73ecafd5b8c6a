-- Laws of the single headers.
use Rattle.ep_base.proofs.TableLemmas.{decided}
use Rattle.ep_ext.proofs.FragmentHeaderLemmas.{fragment_header_is_read}
use Rattle.ep_ext.proofs.IpAuthLemmas.{ip_auth_is_read}
use Rattle.ep_ext.proofs.RawExtensionLemmas.{raw_extension_is_read}
use Rattle.ep_ext.proofs.PartLemmas.{HeaderLaws}

pub header_laws : HeaderLaws
header_laws = record {
  ip_auth = decided ip_auth_is_read;
  fragment_header = decided fragment_header_is_read;
  raw_extension = decided raw_extension_is_read;
}
