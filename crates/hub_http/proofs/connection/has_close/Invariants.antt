use Rattle.std.proofs.Common.{◌≡◌, map, drop}
use Rattle.std.specs.List.{list_any}
use Rattle.httparse.specs.Spans.{header_bytes}
use Rattle.hub_http.specs.Heads.{asks_close}
use Rattle.hub_http.proofs.connection.has_close.Given as goal

abbrev pub invariant-loop-header : goal.invariant-loop-header
invariant-loop-header l =
    let buf = l.fields-inside.buf.now in
    let headers = l.fields-inside.headers.now in
    list_any asks_close (map (header_bytes buf) headers)
    ≡ list_any asks_close (map (header_bytes buf) (drop l.header-index headers))
