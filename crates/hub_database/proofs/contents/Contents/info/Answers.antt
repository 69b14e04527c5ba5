use Rattle.std.proofs.Common.{◌≡◌, ◌∙◌, ◌+◌, ◌-◌, ap, sym, length, arith}
use Rattle.hub_database.specs.Database.{Contents}
use Rattle.hub_database.specs.Reads.{info_of}
use Rattle.hub_database.proofs.InfoLemmas.{count_below, info_by}
use Rattle.hub_database.proofs.contents.Contents.info.Goals as goal

pub returns : goal.returns
returns c =
    let store = c.self.inside in
    let below = count_below store c.self.invariant.documents c.self.invariant.counted in
    let sum : (c.len-doc_count.result - store.deleted) + store.deleted ≡ length store.documents.items =
    omega (arith, below, c.len-doc_count.ensures, store.documents.ok.0) in
    info_by store c.self.invariant.documents c.self.invariant.counted
    (c.len-doc_count.result - store.deleted) c.length.result c.self.inside.life sum
    (c.length.ensures ∙ sym (ap (λ (contents : Contents). length contents.journal) c.self.view_is))
    ∙ ap (λ (contents : Contents). info_of contents.journal contents.life) c.self.view_is
