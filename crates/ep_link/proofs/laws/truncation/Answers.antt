use Rattle.ep_link.proofs.CutRefusalLemmas.{arp_cut, ethernet2_cut, extension_cut, linux_sll_cut, macsec_cut, macsec_header_cut, vlan_cut}
use Rattle.ep_link.proofs.laws.truncation.Goals as goal

pub returns : goal.returns
returns c = record {
  ethernet2 = ethernet2_cut;
  linux_sll = linux_sll_cut;
  vlan = vlan_cut;
  macsec_header = macsec_header_cut;
  macsec = macsec_cut;
  arp = arp_cut;
  link_extension = extension_cut;
}
