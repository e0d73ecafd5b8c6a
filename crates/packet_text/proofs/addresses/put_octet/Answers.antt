use Rattle.std.proofs.Common.{◌≡◌, ◌*◌, ◌+◌, ◌++◌, slice_range, take, ap, arith, ◌∙◌}
use Rattle.std.proofs.lemmas.Grind.{common_steps}
use Rattle.packet_text.specs.declared.addresses.TheConstants.{DOTTED_OCTETS}
use Rattle.packet_text.proofs.AddressLemmas.{dotted_len, octet-fits, octet-in_table, take_part}
use Rattle.packet_text.proofs.addresses.put_octet.Goals as goal

pub returns-clause-text : goal.returns-clause-text
returns-clause-text c =
    let text = c.args.text.now in
    let at = c.args.at in
    let octet = c.args.octet in
    let part = c.copy_from_slice.new.self in
    let end : at + 2 + c.from.result + c.from-2.result ≡ at + dotted_len octet = grind (arith, common_steps) in
    let written : part ≡ slice_range DOTTED_OCTETS (4 * octet) (4 * octet + 4) = grind (arith, common_steps) in
    rw (end, written) (take_part text (slice_range DOTTED_OCTETS (4 * octet) (4 * octet + 4)) _ at (dotted_len octet)
    (omega (arith, c.told-text, c.requires)) (octet-fits octet c.ranges.octet.fits)
    ∙ ap (λ t. take at text ++ t) (octet-in_table octet c.ranges.octet.fits))
