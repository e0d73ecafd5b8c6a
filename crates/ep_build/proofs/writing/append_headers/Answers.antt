use Rattle.std.proofs.Common.{◌++◌, List, ℕ, length, ap, ◌∙◌, arith}
use Rattle.std.proofs.lemmas.List.{append_assoc, length-append}
use Rattle.ep_packet.specs.IpHeaders.{ip_headers_parts, written_headers}
use Rattle.ep_build.specs.BuiltFrames.{link_with_type, link_part_bytes}
use Rattle.ep_build.proofs.SizeLemmas.{headers_len, link_len}
use Rattle.ep_build.proofs.writing.append_headers.Goals as goal

pub append_with_type-requires : goal.append_with_type-requires
append_with_type-requires g c =
    omega (arith, c.requires.capacity, link_len c.args.link.now c.args.ether_type c.link_fits.ensures)

pub append-requires-clause-capacity : goal.append-requires-clause-capacity
append-requires-clause-capacity g c = omega (
  arith,
  c.requires.capacity,
  link_len c.args.link.now c.args.ether_type c.link_fits.ensures,
  ap length c.append_with_type.ensures.items,
  length-append c.args.buf.now.items (link_part_bytes (link_with_type c.args.link.now c.args.ether_type)),
  c.append_with_type.ensures.capacity,
)

pub returns-clause-items : goal.returns-clause-items
returns-clause-items g c =
    let headers = g.Headers.IsIpHeaders.headers c.args.headers.now in
    let prefix = link_part_bytes (link_with_type c.args.link.now c.args.ether_type) in
    let written = written_headers headers (ip_headers_parts headers) in
    c.append.ensures.items ∙ ap (λ (b : List ℕ). b ++ written) c.append_with_type.ensures.items
    ∙ append_assoc c.args.buf.now.items prefix written

pub returns-clause-len : goal.returns-clause-len
returns-clause-len g c =
    let headers = g.Headers.IsIpHeaders.headers c.args.headers.now in
    let prefix = link_part_bytes (link_with_type c.args.link.now c.args.ether_type) in
    let written = written_headers headers (ip_headers_parts headers) in
    omega (
      arith,
      ap length (returns-clause-items g c),
      length-append c.args.buf.now.items (prefix ++ written),
      length-append prefix written,
      link_len c.args.link.now c.args.ether_type c.link_fits.ensures,
      headers_len headers c.requires.fits,
    )
