use Rattle.std.proofs.Common.{◌-◌, drop, slice_index, take, arith}
use Rattle.std.specs.Fmt.{decimal}
use Rattle.line_io.proofs.ResultLemmas.{OnOk-appended}
use Rattle.packet_text.specs.Addresses.{ipv4_text}
use Rattle.packet_text.proofs.AddressLemmas.{four_dotted}
use Rattle.packet_text.proofs.addresses.push_ipv4.Goals as goal

pub returns : goal.returns
unfolding ipv4_text
returns c =
    let address = c.args.address in
    let end = c.put_octet-end.result in
    OnOk-appended c.extend_from_slice.result c.args.output.now.items c.extend_from_slice.new.self.items
    (take (end - 1) (drop 1 c.put_octet-end.new.text)) _ c.extend_from_slice.ensures.items
    (four_dotted (decimal (slice_index address 0)) (decimal (slice_index address 1)) (decimal (slice_index address 2))
    (decimal (slice_index address 3)) _ _ _ c.put_octet-end.new.text end c.put_octet-first.ensures.text
    c.put_octet-second.ensures.text c.put_octet-third.ensures.text c.put_octet-end.ensures.text
    (omega (arith, c.put_octet-end.ensures.grows)))
