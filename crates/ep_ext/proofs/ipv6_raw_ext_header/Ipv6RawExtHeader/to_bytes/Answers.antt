use Rattle.std.proofs.Common.{◌≡◌, length, ap, subst, arith, rules}
use Rattle.ep_base.specs.Bytes.{AreBytes}
use Rattle.ep_ext.specs.RawExtension.{raw_extension_payload}
use Rattle.ep_ext.proofs.ipv6_raw_ext_header.Ipv6RawExtHeader.to_bytes.Goals as goal

pub returns-clause-fits : goal.returns-clause-fits
returns-clause-fits c =
    let payload = c.payload-payload in
    let len : length payload.result.now ≡ length (raw_extension_payload c.args.self.now) =
    ap length payload.ensures.value in
    record {
      next_header = search rules;
      payload_least = omega (arith, len, payload.ensures.least);
      payload_len = omega (arith, len, payload.ensures.bound);
      payload_units = omega (arith, len, payload.ensures.units);
      payload = subst AreBytes payload.ensures.value (λ i. search rules);
    }
