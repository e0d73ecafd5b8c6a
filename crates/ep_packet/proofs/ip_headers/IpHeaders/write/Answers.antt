use Rattle.std.proofs.Common.{◌≡◌, List, ℕ, ◌++◌, length, length-append, append_assoc, Err, sym, ap, subst}
use Rattle.std.proofs.Common.{◌∙◌, arith}
use Rattle.std.specs.Prelude.{is_err, vec_len, vec_capacity}
use Rattle.ep_ext.specs.Chains.{parts_bytes}
use Rattle.ep_packet.specs.declared.err.headers_write_error.HeadersWriteError.{HeadersWriteError}
use Rattle.ep_packet.specs.declared.err.headers_write_error.HeadersWriteError.TheVariants as write_error
use Rattle.ep_packet.specs.IpHeaders.{ip_header_bytes, of_walk_error, with_checksum}
use Rattle.ep_ext.proofs.WalkLemmas.{on_err, on_ok, succeeds, when_ok}
use Rattle.ep_packet.proofs.IpHeadersLemmas.{TellsLeading, extensions_succeed, leading_len, not_memory, not_refused}
use Rattle.ep_packet.proofs.IpHeadersLemmas.{tells_memory, tells_ok, tells_refusal}
use Rattle.ep_packet.proofs.ip_headers.IpHeaders.write.Goals as goal

pub returns-in-Err-clause-leading : goal.returns-in-Err-clause-leading
returns-in-Err-clause-leading c = subst
    (λ (e : HeadersWriteError). TellsLeading c.args.self.now (Err e))
    (sym c.of_walk_error.ensures) (tells_refusal c.args.self.now c.in-Err.error c.in-Err.ensures.err)

pub returns-in-Err-clause-full : goal.returns-in-Err-clause-full
returns-in-Err-clause-full c same =
    let inner : write_error.OutOfMemory ≡ of_walk_error c.in-Err.error = cc c.of_walk_error.ensures in
    absurd (not_memory c.in-Err.error inner)

pub returns-then-is_err-clause-leading : goal.returns-then-is_err-clause-leading
returns-then-is_err-clause-leading c =
    let leads = c.in_default.ensures.ok in
    tells_memory c.args.self.now
    (λ error refused. not_refused c.args.self.now leads.0 c.in_default.field-0.0 error leads.1 refused)

pub returns-then-is_err-clause-full : goal.returns-then-is_err-clause-full
returns-then-is_err-clause-full c same =
    let leads = c.in_default.ensures.ok in
    let header = ip_header_bytes (with_checksum c.args.self.now) in (
      leads.0,
      c.in_default.field-0.0,
      leads.1,
      omega (
        arith,
        on_err c.reserve.result _ (sym c.if-is_err.ensures.value) c.reserve.ensures.full,
        c.written_len.ensures.value,
        leading_len c.args.self.now leads.0 c.in_default.field-0.0 leads.1,
        length-append header (parts_bytes leads.0),
      ),
    )

pub unwrap-requires : goal.unwrap-requires
unwrap-requires c = succeeds c.write_header.result _ _ c.write_header.ensures.full (omega (
  arith,
  when_ok c.reserve.result _ c.if-is_err.ensures.negation c.reserve.ensures.ok,
  c.written_len.ensures.value,
))

pub unwrap-requires-2 : goal.unwrap-requires-2
unwrap-requires-2 c =
    let leads = c.in_default.ensures.ok in
    let header = ip_header_bytes (with_checksum c.args.self.now) in
    let prefix : c.write_header.new.buf.items ≡ c.reserve.new.self.items ++ header =
    on_ok c.write_header.result _ (ap is_err c.unwrap.ensures) c.write_header.ensures.ok in
    extensions_succeed c.args.self.now leads.0 c.in_default.field-0.0 (vec_len c.write_header.new.buf)
    (vec_capacity c.write_header.new.buf) c.write_extensions.result leads.1
    (omega (
      arith,
      when_ok c.reserve.result _ c.if-is_err.ensures.negation c.reserve.ensures.ok,
      c.written_len.ensures.value,
      c.write_header.ensures.capacity,
      c.write_header.new.buf.ok.0,
      c.reserve.new.self.ok.0,
      ap length prefix,
      length-append c.reserve.new.self.items header,
    ))
    c.write_extensions.ensures.leading c.write_extensions.ensures.full

pub returns-clause-ok : goal.returns-clause-ok
returns-clause-ok c =
    let ok = on_ok c.write_extensions.result _ (ap is_err c.unwrap-2.ensures) c.write_extensions.ensures.ok in
    let old = c.args.buf.now.items in
    let header = ip_header_bytes (with_checksum c.args.self.now) in
    let prefix : c.write_header.new.buf.items ≡ old ++ header =
    on_ok c.write_header.result _ (ap is_err c.unwrap.ensures) c.write_header.ensures.ok
    ∙ ap (λ (s : List ℕ). s ++ header) c.reserve.ensures.items in (
      ok.0,
      ok.1,
      ok.2,
      ok.3,
      ok.4 ∙ ap (λ (s : List ℕ). s ++ parts_bytes ok.0) prefix ∙ append_assoc old header (parts_bytes ok.0),
    )

pub returns-clause-fits : goal.returns-clause-fits
returns-clause-fits c = c.write_header.ensures.fits

pub returns-clause-leading : goal.returns-clause-leading
returns-clause-leading c =
    let leads = c.in_default.ensures.ok in
    tells_ok c.args.self.now
    (λ error refused. not_refused c.args.self.now leads.0 c.in_default.field-0.0 error leads.1 refused)
