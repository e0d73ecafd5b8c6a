use Rattle.std.proofs.Common.{length, ap, subst, arith, rules}
use Rattle.ep_base.specs.Bytes.{AreBytes}
use Rattle.ep_link.proofs.arp.arp_packet.ArpPacket.to_bytes.Goals as goal

pub returns-clause-fits : goal.returns-clause-fits
returns-clause-fits c =
    let sender_hw = c.sender_hw_addr-sender_hw_addr in
    let sender_protocol = c.sender_protocol_addr-sender_protocol_addr in
    let target_hw = c.target_hw_addr-target_hw_addr in
    let target_protocol = c.target_protocol_addr-target_protocol_addr in
    record {
      hw_addr_type = omega arith;
      proto_addr_type = omega arith;
      operation = omega arith;
      hw_addr_len = omega (arith, sender_hw.ensures.bound, ap length sender_hw.ensures.value);
      same_hw_addr_len = c.args.self.now.hw_addr_len;
      protocol_addr_len = omega (arith, sender_protocol.ensures.bound, ap length sender_protocol.ensures.value);
      same_protocol_addr_len = c.args.self.now.protocol_addr_len;
      sender_hw_addr = subst AreBytes sender_hw.ensures.value (λ i. search rules);
      sender_protocol_addr = subst AreBytes sender_protocol.ensures.value (λ i. search rules);
      target_hw_addr = subst AreBytes target_hw.ensures.value (λ i. search rules);
      target_protocol_addr = subst AreBytes target_protocol.ensures.value (λ i. search rules);
    }
