use Rattle.etherparse.specs.Frame.{net_kind}
use Rattle.etherparse_c.specs.Plain.{plain_payload}
use Rattle.etherparse_c.proofs.PlainLemmas.{plain_is_described, plain_part}
use Rattle.etherparse_c.proofs.plain.describe_net.Goals as goal

pub returns : goal.returns
returns c =
    λ done.
    let ip = c.in-Some.ip in
    let has = c.in-Some.ensures in
    let does = c.describe_ip.ensures done in
    record {
      net = has.layer;
      transport = does.0;
      holds = plain_part (net_kind c.args.ether_type) c.args.slice.now has.layer (plain_payload ip) does.0 has.is
          has.fields.payload does.1;
      described = plain_is_described c.args.offset has.layer does.0 ip c.args.described.now
          c.describe_ip.new.described has.fields does.2;
    }
