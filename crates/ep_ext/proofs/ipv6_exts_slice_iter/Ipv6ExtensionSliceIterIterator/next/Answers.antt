use Rattle.std.proofs.Common.{◌≡◌, ◌-◌, true, false, ◌∷◌, ◌++◌, length, take, drop, refl, sym, ap, ◌∙◌, arith}
use Rattle.ep_base.proofs.BytesLemmas.{rest_of}
use Rattle.ep_ext.specs.Chains.{is_ipv6_extension}
use Rattle.ep_ext.specs.ShownChains.{shown_parts}
use Rattle.ep_ext.specs.Ipv6ExtensionSlices.{extension_slice_part, extension_slice_bytes}
use Rattle.ep_ext.proofs.ShownLemmas.{shown_next, shown_none, no_kind_shown, refused_shown}
use Rattle.ep_ext.proofs.ipv6_exts_slice_iter.Ipv6ExtensionSliceIterIterator.next.Goals as goal

pub returns-then-not-is_extension-clause-steps : goal.returns-then-not-is_extension-clause-steps
returns-then-not-is_extension-clause-steps c =
    let number = c.args.self.now.number.0 in
    let bytes = c.args.self.now.rest.now in
    let none : is_ipv6_extension number ≡ false = sym c.is_extension.ensures ∙ c.if-not-is_extension.true in
    let empty = shown_none number bytes (no_kind_shown number bytes none) in
    (empty, empty, refl, refl)

pub returns-in-Ok-clause-steps : goal.returns-in-Ok-clause-steps
returns-in-Ok-clause-steps c =
    let number = c.args.self.now.number.0 in
    let bytes = c.args.self.now.rest.now in
    let part = extension_slice_part c.in-Ok.part in
    let ok = c.in-Ok.ensures.ok in
    let n = length c.slice.result.now in
    let next = sym c.next_header-self.ensures in
    let rest = rest_of bytes (extension_slice_bytes c.in-Ok.part) ok.0 n ok.1 (ap length c.slice.ensures) in (
      shown_next number bytes part ok.0 ok.2 ∙ (λ i. part ∷ shown_parts (next i) (sym rest i)),
      ok.1 ∙ (λ i. extension_slice_bytes c.in-Ok.part ++ sym rest i),
      c.next_header-self.ensures,
    )

pub returns-in-Ok-clause-goes : goal.returns-in-Ok-clause-goes
returns-in-Ok-clause-goes c =
    let number = c.args.self.now.number.0 in
    let bytes = c.args.self.now.rest.now in
    let part = extension_slice_part c.in-Ok.part in
    let ok = c.in-Ok.ensures.ok in
    let n = length c.slice.result.now in
    let rest = rest_of bytes (extension_slice_bytes c.in-Ok.part) ok.0 n ok.1 (ap length c.slice.ensures) in
    let steps : shown_parts number bytes ≡ part ∷ shown_parts c.next_header-self.result.0 (take (length bytes - n)
    (drop n bytes))
    = shown_next number bytes part ok.0 ok.2 ∙ (λ i. part ∷ shown_parts (sym c.next_header-self.ensures i)
    (sym rest i)) in
    record { on = λ f. (tt, tt, omega (arith, ap length steps)); keeps = tt; rests = λ f. tt }

pub returns-in-Err-clause-steps : goal.returns-in-Err-clause-steps
returns-in-Err-clause-steps c =
    let number = c.args.self.now.number.0 in
    let bytes = c.args.self.now.rest.now in
    let kind : is_ipv6_extension number ≡ true = sym c.is_extension.ensures ∙ c.if-not-is_extension.false in
    let empty = shown_none number bytes (refused_shown number bytes _ kind c.in-Err.ensures.err) in
    (empty, empty, refl, refl)
