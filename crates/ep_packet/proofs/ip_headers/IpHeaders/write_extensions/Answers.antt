use Rattle.std.proofs.Common.{Err, refl, sym, subst, ◌∙◌}
use Rattle.ep_base.specs.declared.err.ip_exts.ExtsWalkError.TheVariants as walk_error
use Rattle.ep_ext.specs.Ipv4Chains.{ipv4_parts, ipv4_walk}
use Rattle.ep_packet.specs.declared.ip_headers.IpHeaders.{IpHeaders}
use Rattle.ep_packet.specs.IpHeaders.{RefusesLeading, LeadThrough}
use Rattle.ep_packet.proofs.IpHeadersLemmas.{leads_4, never_4, never_6, not_refused, tells_memory, tells_ok}
use Rattle.ep_packet.proofs.IpHeadersLemmas.{tells_refusal, walk_end_4}
use Rattle.ep_packet.proofs.ip_headers.IpHeaders.write_extensions.Goals as goal

pub returns-in-Ok-clause-ok : goal.returns-in-Ok-clause-ok
returns-in-Ok-clause-ok c =
    let h = c.in-Ipv4.header in
    let e = c.in-Ipv4.extensions in
    let walk = c.in-Ok.ensures.walk in
    let end = walk_end_4 (ipv4_walk e h.protocol)
    (λ error refused. let same = (walk error).0 refused in absurd (cc)) in (
      ipv4_parts e,
      end.0.0,
      leads_4 c.args.self.now h e end.0 c.in-Ipv4.is end.1,
      c.in-Ok.ensures.fits,
      c.in-Ok.ensures.ok,
    )

pub returns-in-Ok-clause-leading : goal.returns-in-Ok-clause-leading
returns-in-Ok-clause-leading c =
    let walk = c.in-Ok.ensures.walk in
    tells_ok c.args.self.now (never_4 c.args.self.now c.in-Ipv4.header c.in-Ipv4.extensions c.in-Ipv4.is
    (λ error refused. let same = (walk error).0 refused in absurd (cc)))

pub returns-in-Err-Content-clause-leading : goal.returns-in-Err-Content-clause-leading
returns-in-Err-Content-clause-leading c =
    let error = c.in-Err-Content.error in
    let same = c.in-Err-Content.is ∙ (λ i. Err (c.in-Err-Content.field-0-is i)) in
    let refused = (c.write.ensures.walk error).1 same in
    tells_refusal c.args.self.now (walk_error.Ipv4Exts error)
    (subst (λ (h : IpHeaders). RefusesLeading h (walk_error.Ipv4Exts error)) (sym c.in-Ipv4.is) (error, refused, refl))

pub returns-in-Err-OutOfMemory-clause-leading : goal.returns-in-Err-OutOfMemory-clause-leading
returns-in-Err-OutOfMemory-clause-leading c =
    let is = c.in-Err-OutOfMemory.is in
    let memory = c.in-Err-OutOfMemory.field-0-is in
    let walk = c.write.ensures.walk in
    tells_memory c.args.self.now (never_4 c.args.self.now c.in-Ipv4.header c.in-Ipv4.extensions c.in-Ipv4.is
    (λ error refused. let same = (walk error).0 refused in absurd (cc)))

pub returns-in-Ok-write-clause-leading : goal.returns-in-Ok-write-clause-leading
returns-in-Ok-write-clause-leading c =
    let ok = c.in-Ok-write.ensures.ok in
    let leads = subst (λ (h : IpHeaders). LeadThrough h ok.0 ok.1) (sym c.in-Ipv6.is) ok.2 in
    tells_ok c.args.self.now (λ error refused. not_refused c.args.self.now ok.0 ok.1 error leads refused)

pub returns-in-Err-Content-write-clause-leading : goal.returns-in-Err-Content-write-clause-leading
returns-in-Err-Content-write-clause-leading c =
    let error = c.in-Err-Content-write.error in
    let same = c.in-Err-Content-write.is ∙ (λ i. Err (c.in-Err-Content-write.field-0-is i)) in
    let refused = (c.write-in-Ipv6.ensures.walk error).1 same in
    tells_refusal c.args.self.now (walk_error.Ipv6Exts error)
    (subst (λ (h : IpHeaders). RefusesLeading h (walk_error.Ipv6Exts error)) (sym c.in-Ipv6.is) (error, refused, refl))

pub returns-in-Err-OutOfMemory-write-clause-leading : goal.returns-in-Err-OutOfMemory-write-clause-leading
returns-in-Err-OutOfMemory-write-clause-leading c =
    let is = c.in-Err-OutOfMemory-write.is in
    let memory = c.in-Err-OutOfMemory-write.field-0-is in
    let walk = c.write-in-Ipv6.ensures.walk in
    tells_memory c.args.self.now (never_6 c.args.self.now c.in-Ipv6.header c.in-Ipv6.extensions c.in-Ipv6.is
    (λ error refused. let same = (walk error).0 refused in absurd (cc)))

pub returns-in-Err-OutOfMemory-clause-full : goal.returns-in-Err-OutOfMemory-clause-full
returns-in-Err-OutOfMemory-clause-full c =
    let h = c.in-Ipv4.header in
    let e = c.in-Ipv4.extensions in
    let is = c.in-Err-OutOfMemory.is in
    let memory = c.in-Err-OutOfMemory.field-0-is in
    let walk = c.write.ensures.walk in
    let end = walk_end_4 (ipv4_walk e h.protocol) (λ error refused. let same = (walk error).0 refused in absurd (cc)) in
    λ wanting. (
      ipv4_parts e,
      end.0.0,
      leads_4 c.args.self.now h e end.0 c.in-Ipv4.is end.1,
      c.write.ensures.full (is ∙ (λ i. Err (memory i))),
    )
