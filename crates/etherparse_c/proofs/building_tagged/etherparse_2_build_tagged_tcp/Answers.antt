use Rattle.std.proofs.Common.{◌≡◌, inl, ap, subst, ◌∙◌}
use Rattle.etherparse.specs.Types.TransportHeader.{TransportHeader}
use Rattle.etherparse.specs.Types.TransportHeader.TheVariants as transport
use Rattle.etherparse_c.specs.Building.{tcp_of}
use Rattle.etherparse_c.specs.TaggedBuilding.{IsTaggedAnswer, with_options}
use Rattle.etherparse_c.proofs.building_tagged.etherparse_2_build_tagged_tcp.Goals as goal

pub returns-in-Ok : goal.returns-in-Ok
returns-in-Ok c =
    let options = c.args.options.now in
    let header : transport.Tcp c.set_options_raw.new.self ≡ with_options options (tcp_of c.args.fields.now) =
    ap transport.Tcp c.in-Ok.ensures.1 ∙ ap (with_options options) c.tcp_header-header.ensures in
    inl (
      c.in-Ok.ensures.0,
      subst (λ (transport_header : TransportHeader).
          IsTaggedAnswer c.args.route.now transport_header c.args.payload.now c.args.buffer.now
          c.build_tagged.new.buffer c.build_tagged.new.written c.build_tagged.result) header c.build_tagged.ensures,
    )
