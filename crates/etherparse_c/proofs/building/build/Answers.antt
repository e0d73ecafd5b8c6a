use Rattle.std.proofs.Common.{◌≡◌, ℕ, List, Option, Some, sym, subst, rules}
use Rattle.etherparse.specs.BuiltFrames.{transport_frame_headers}
use Rattle.etherparse.specs.Steps.{ip_link, ip_step_headers}
use Rattle.etherparse.specs.Types.IpHeaders.{IpHeaders}
use Rattle.etherparse.specs.Types.LinkPart.{LinkPart}
use Rattle.etherparse.specs.Types.TransportHeader.{TransportHeader}
use Rattle.etherparse_c.specs.Building.{IsBuildAnswer, IsBuildAnswerBy, IsBuilt, route_headers, route_link}
use Rattle.etherparse_c.specs.declared.route.Route.{Route}
use Rattle.etherparse_c.proofs.building.build.Goals as goal

-- A frame that is built from the headers of a route is the answer for that route.
answered : (route : Route) (header : TransportHeader) (link : LinkPart) (headers : IpHeaders) (payload old new : List ℕ)
    (written status : ℕ) → route_link route ≡ link → route_headers route ≡ Some headers
    → IsBuilt (transport_frame_headers link headers header) payload old new written status
    → IsBuildAnswer route header payload old new written status
answered route header link headers payload old new written status links leads built =
    subst (λ (l : LinkPart). IsBuildAnswerBy l header (route_headers route) payload old new written status) (sym links)
    (subst (λ (h : Option IpHeaders). IsBuildAnswerBy link header h payload old new written status) (sym leads) built)

pub returns-then-route-eq0 : goal.returns-then-route-eq0
returns-then-route-eq0 g c =
    let route = c.args.route.now in
    let step = c.ipv4-step.result in
    let links : route_link route ≡ ip_link step = search rules in
    let leads : route_headers route ≡ Some (ip_step_headers step) = search rules in
    answered route (g.Transport.TransportPart.header c.args.transport_part) (ip_link step) (ip_step_headers step)
    c.args.payload.now c.args.buffer.now c.write_transport.new.buffer c.write_transport.new.written
    c.write_transport.result links leads c.write_transport.ensures

pub returns-then-route-eq4 : goal.returns-then-route-eq4
returns-then-route-eq4 g c =
    let route = c.args.route.now in
    let step = c.ipv4-step-then-route-eq4.result in
    let links : route_link route ≡ ip_link step = search rules in
    let leads : route_headers route ≡ Some (ip_step_headers step) = search rules in
    answered route (g.Transport.TransportPart.header c.args.transport_part) (ip_link step) (ip_step_headers step)
    c.args.payload.now c.args.buffer.now c.write_transport-then-route-eq4.new.buffer
    c.write_transport-then-route-eq4.new.written c.write_transport-then-route-eq4.result links leads
    c.write_transport-then-route-eq4.ensures
