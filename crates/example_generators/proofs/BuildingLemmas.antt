-- The headers in a builder step, also after its TCP header was changed, and the bytes appended if there may be no step.
use Rattle.std.proofs.Common.{◌≡◌, List, ℕ, ◌+◌, ◌<◌, ◌++◌, length, Option, Some, None, Result, Ok, Err, ap, refl}
use Rattle.std.proofs.Common.{subst, ◌∙◌}
use Rattle.std.specs.Prelude.{Vec, MatchResult, OnOk, OnErr, IfErr, vec_len, vec_capacity}
use Rattle.etherparse.specs.AppendedFrames.{AppendsFrame}
use Rattle.etherparse.specs.BuildErrors.{IsBuildable, IsBuildError}
use Rattle.etherparse.specs.BuiltFrames.{FrameHeaders, Inside, built_frame, built_size, transport_frame_headers, transport_packet}
use Rattle.etherparse.specs.Types.BuildWriteError.{BuildWriteError}
use Rattle.etherparse.specs.Types.BuildWriteError.TheVariants.{OutOfMemory}
use Rattle.etherparse.specs.Types.IpHeaders.{IpHeaders}
use Rattle.etherparse.specs.Types.LinkPart.{LinkPart}
use Rattle.etherparse.specs.Types.TcpHeader.{TcpHeader}
use Rattle.etherparse.specs.Types.TransportHeader.{TransportHeader}
use Rattle.etherparse.specs.Types.TransportHeader.TheVariants as header
use Rattle.example_generators.specs.Requests.{AppendsIfSome}

-- Frames with equal link and IP headers and one transport header have equal headers.
pub same_transport : (link known_link : LinkPart) (headers known_headers : IpHeaders)
    (transport_header : TransportHeader) → link ≡ known_link → headers ≡ known_headers
    → transport_frame_headers link headers transport_header ≡ transport_frame_headers known_link known_headers transport_header
same_transport link known_link headers known_headers transport_header link_is headers_are =
    ap (λ (part : LinkPart). transport_frame_headers part headers transport_header) link_is
    ∙ ap (λ (ip : IpHeaders). transport_frame_headers known_link ip transport_header) headers_are

-- Writing a step appends the frame with the headers that the step is known to have.
pub appends_known : {Z : Type 0} (kept known : FrameHeaders) (payload : List ℕ) (old new : Vec ℕ Z)
    (result : Result (Unit {0}) BuildWriteError) → kept ≡ known
    → OnOk result (IsBuildable kept (length payload) × (new.items ≡ old.items ++ built_frame kept payload))
    → OnErr result (new.items ≡ old.items) → IfErr result (IsBuildError kept (length payload))
    → (result ≡ Err OutOfMemory → vec_capacity old < vec_len old + built_size kept (length payload))
    → AppendsFrame known payload old new result
appends_known kept known payload old new result same ok err refused full =
    subst (λ (h : FrameHeaders). AppendsFrame h payload old new result) same
    (record { ok = ok; err = err; refused = refused; full = full })

-- If there are headers, the frame with them is appended.
pub appends_some : {Z : Type 0} (found : Option FrameHeaders) (kept : FrameHeaders) (payload : List ℕ) (old new : Vec ℕ Z)
    (result : Result (Unit {0}) BuildWriteError) → found ≡ Some kept → AppendsFrame kept payload old new result
    → AppendsIfSome found payload old new (Some result)
appends_some found kept payload old new result found_is appends = rw found_is appends

-- If there are no headers, nothing is appended.
pub appends_none : {Z : Type 0} (found : Option FrameHeaders) (payload : List ℕ) (buf : Vec ℕ Z)
    (result : Option (Result (Unit {0}) BuildWriteError)) → found ≡ None → result ≡ None
    → AppendsIfSome found payload buf buf result
appends_none found payload buf result found_is result_is = rw (found_is, result_is) refl

-- the headers with a changed TCP header
abbrev pub with_tcp : (TcpHeader → TcpHeader) → Inside → Inside
with_tcp change (transport_packet headers (header.Tcp tcp)) = transport_packet headers (header.Tcp (change tcp))
with_tcp change inside = inside

abbrev pub kept_with_tcp : (TcpHeader → TcpHeader) → FrameHeaders → FrameHeaders
kept_with_tcp change kept = record { link = kept.link; inside = with_tcp change kept.inside }

-- A property of all `Ok` values of a result holds of the unwrapped value.
pub unwrapped : {T E : Type 0} (result : Result T E) (value : T) (P : T → Type 0) (Q : E → Type 0)
    → result ≡ Ok value → MatchResult result P Q → P value
unwrapped result value P Q is holds = rw is at holds
