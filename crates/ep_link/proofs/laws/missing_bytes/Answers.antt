use Rattle.ep_link.proofs.MissingLemmas.{arp_tells, ethernet2_tells, extension_tells, linux_sll_tells, macsec_header_tells, macsec_tells, vlan_tells}
use Rattle.ep_link.proofs.laws.missing_bytes.Goals as goal

pub returns : goal.returns
returns c = record {
  ethernet2 = ethernet2_tells;
  linux_sll = linux_sll_tells;
  vlan = vlan_tells;
  macsec_header = macsec_header_tells;
  macsec = macsec_tells;
  arp = arp_tells;
  link_extension = extension_tells;
}
