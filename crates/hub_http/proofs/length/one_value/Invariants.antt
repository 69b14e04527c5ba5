use Rattle.std.proofs.Common.{map, codes, drop, option_copied}
use Rattle.httparse.specs.Spans.{header_bytes}
use Rattle.hub_http.specs.Heads.{values_named}
use Rattle.hub_http.proofs.length.one_value.Given as goal
use Rattle.hub_http.specs.Looking.{SoFar}

abbrev pub invariant-loop-header : goal.invariant-loop-header
invariant-loop-header l =
    let buf = l.fields-inside.buf.now in
    let headers = l.fields-inside.headers.now in
    SoFar (option_copied l.seen) (values_named (codes "content-length") (map (header_bytes buf) headers))
    (values_named (codes "content-length") (map (header_bytes buf) (drop l.header-index headers)))
