use Rattle.std.proofs.Common.{◌≡◌, [], None, sym, arith}
use Rattle.std.proofs.lemmas.Grind.{common_steps}
use Rattle.std.proofs.lemmas.List.{append-nil}
use Rattle.ep_base.specs.Bytes.{AreBytes}
use Rattle.ep_base.specs.Tables.{first_row}
use Rattle.ep_link.specs.Vlan.{vlan_rows}
use Rattle.ep_link.proofs.VlanLemmas.{vlan_is_read}
use Rattle.ep_link.proofs.link_ext.single_vlan_slice.SingleVlanSlice.from_slice.Goals as goal

pub returns : goal.returns
returns c =
    let bytes = c.args.slice.now in
    let fits : AreBytes bytes = λ i. omega (arith, c.type_inv.slice i) in
    let none : first_row (vlan_rows bytes) ≡ None = grind (arith, common_steps) in
    record {
      ok = ([], sym (append-nil bytes), vlan_is_read.reads bytes fits none);
      only = λ tagged is.
          let same = (vlan_is_read.is_read bytes tagged is).1 in
          λ i. record { header = (sym same i).header; payload = (sym same i).payload; left = tagged.left };
      err = tt;
    }
