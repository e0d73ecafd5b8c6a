use Rattle.std.proofs.Common.{◌≡◌, ◌+◌, ◌-◌, ◌^◌, min, ◌++◌, ℕ, List, length, take, get_or, sym, ap, ◌∙◌, arith}
use Rattle.std.proofs.lemmas.List.{length-append}
use Rattle.std.proofs.lemmas.List.Elements.{All-more}
use Rattle.ep_transport.specs.declared.tcp_option_element.TcpOptionElement.TheVariants.{Noop}
use Rattle.ep_transport.specs.TcpOptionBytes.{FitsOption, option_bytes, options_bytes}
use Rattle.ep_transport.proofs.TcpOptionItemLemmas.{options_next}
use Rattle.ep_transport.proofs.tcp_options.TcpOptions.set_elements.Goals as goal

pub loop-element-preserved : goal.loop-element-preserved
loop-element-preserved c =
    let elements = c.args.elements.now in
    let i = c.loop-element.element-index in
    let before = options_bytes (take i elements) in
    let option = option_bytes (get_or elements i Noop) in
    let next : options_bytes (take (i + 1) elements) ≡ before ++ option =
    options_next elements i Noop c.loop-element-test.true in
    let len : length (options_bytes (take (i + 1) elements)) ≡ length before + length option =
    ap length next ∙ length-append before option in
    let one : c.append_if_fits.result ≡ length option = c.append_if_fits.ensures.len in
    let counted : c.saturating_add-len.result ≡ min (length (options_bytes (take (i + 1) elements))) (2 ^ 64 - 1) =
    omega (arith, c.saturating_add-len.ensures, c.loop-element.invariant.counted, len, one) in
    record {
      counted = counted;
      fits = All-more FitsOption elements i Noop c.loop-element-test.true c.loop-element.invariant.fits
          c.append_if_fits.ensures.fits;
      copied = λ short.
          let copied : c.loop-element.bytes.items ≡ before =
          c.loop-element.invariant.copied (omega (arith, short, c.saturating_add-len.ensures)) in
          c.append_if_fits.ensures.appended
          (omega (arith, short, c.saturating_add-len.ensures, c.loop-element.invariant.counted, one, ap length copied))
          ∙ ap (λ (bytes : List ℕ). bytes ++ option) copied ∙ sym next;
    }
