use Rattle.std.proofs.Common.{◌≡◌, length}
use Rattle.std.specs.Io.KnownBytes.{Keeps}
use Rattle.hub_http.specs.Buffers.{bytes_of}
use Rattle.hub_http.specs.Words.{faults_counted, failures_counted}
use Rattle.hub_http.proofs.buffered.Buffered.drain.Given as goal

abbrev pub invariant-loop-self : goal.invariant-loop-self
invariant-loop-self g l =
    let contents = g.W.Write.contents in
    Keeps (bytes_of contents l.fn.self) (bytes_of contents l.self)
    × (faults_counted l.self.inner ≡ faults_counted l.fn.self.inner)
    × (failures_counted l.self.inner ≡ failures_counted l.fn.self.inner)

abbrev pub decreases-loop-self : goal.decreases-loop-self
decreases-loop-self g l = length l.self.pending
