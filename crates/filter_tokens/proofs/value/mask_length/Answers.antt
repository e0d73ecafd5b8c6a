use Rattle.std.proofs.Common.{rules, Some, ap, sym, ◌∙◌}
use Rattle.std.specs.Net.Addr.{ipv4_octets}
use Rattle.std.specs.declared.net.ip_addr.IpAddr.TheVariants.{V4}
use Rattle.filter_tokens.proofs.MaskLemmas.{mask_differs, mask_equals, mask_is, no_mask}
use Rattle.filter_tokens.proofs.value.mask_length.Goals as goal

pub returns-in_default-clause-only : goal.returns-in_default-clause-only
returns-in_default-clause-only c =
    λ mask bits stated. absurd (no_mask c.args.word.now c.in_default.ensures mask bits stated)

pub returns-then-contains-clause-some : goal.returns-then-contains-clause-some
returns-then-contains-clause-some c = (
  V4 c.in-Ok.mask,
  (
    c.in-Ok.ensures,
    c.ones-bits.ensures.bound,
    mask_equals c.ones-bits.result (ipv4_octets c.in-Ok.mask) (sym c.contains.ensures ∙ c.if-contains.true),
  ),
)

pub returns-then-contains-clause-only : goal.returns-then-contains-clause-only
returns-then-contains-clause-only c =
    λ mask bits stated.
    ap Some (mask_is c.args.word.now c.in-Ok.mask c.ones-bits.result c.in-Ok.ensures (search rules) mask bits stated).0

pub returns-else-contains-clause-only : goal.returns-else-contains-clause-only
returns-else-contains-clause-only c =
    λ mask bits stated.
    let present = mask_is c.args.word.now c.in-Ok.mask c.ones-bits.result c.in-Ok.ensures (search rules) mask bits stated in
    absurd (mask_differs c.ones-bits.result bits (ipv4_octets c.in-Ok.mask)
    (sym c.contains.ensures ∙ c.if-contains.false) present.0 present.1)
