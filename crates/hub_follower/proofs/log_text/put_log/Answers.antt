use Rattle.std.proofs.Common.{◌∙◌, ◌++◌, ap, ℕ, List, codes, decimal}
use Rattle.std.specs.Prelude.{string_bytes}
use Rattle.json.specs.Print.{quoted}
use Rattle.hub_follow_model.specs.ReplicationLog.{ReplicationLog}
use Rattle.hub_follower.specs.LogText.{entries_text, log_text, seq_text}
use Rattle.hub_follower.proofs.Appends.{more}
use Rattle.hub_follower.proofs.log_text.put_log.Goals as goal

pub returns : goal.returns
returns c =
    let log = c.log.inside in
    let o0 = c.args.out.now.items in
    let o1 = c.extend_from_slice.new.self.items in
    let o2 = c.put_entries.new.out.items in
    let o3 = c.extend_from_slice-2.new.self.items in
    let o4 = c.put_number.new.out.items in
    let o5 = c.extend_from_slice-3.new.self.items in
    let o6 = c.put_quoted.new.out.items in
    let o7 = c.put_seq.new.out.items in
    let o8 = c.extend_from_slice-4.new.self.items in
    let r7 : List ℕ = codes "}" in
    let b6 : List ℕ = codes ",\"source_last_seq\":" ++ seq_text log.source_last_seq in
    let b5 : List ℕ = quoted (string_bytes log.session_id) in
    let b4 : List ℕ = codes ",\"session_id\":" in
    let b3 : List ℕ = decimal 3 in
    let b2 : List ℕ = codes "],\"replication_id_version\":" in
    let b1 : List ℕ = entries_text log.history.items in
    let b0 : List ℕ = codes "{\"history\":[" in
    let listed = c.in_ok-put_entries.ensures ∙ ap (λ z. o1 ++ entries_text z) c.as_slice.ensures.value in
    let named = c.in_ok-put_quoted.ensures.ok ∙ ap (λ z. o5 ++ quoted z) c.as_str.ensures.value in
    let s6 = more o8 o7 o6 b6 r7 c.in_ok-extend_from_slice-4.ensures.items c.in_ok-put_seq.ensures in
    let s5 = more o8 o6 o5 b5 (b6 ++ r7) s6 named in
    let s4 = more o8 o5 o4 b4 (b5 ++ (b6 ++ r7)) s5 c.in_ok-extend_from_slice-3.ensures.items in
    let s3 = more o8 o4 o3 b3 (b4 ++ (b5 ++ (b6 ++ r7))) s4 c.in_ok-put_number.ensures in
    let s2 = more o8 o3 o2 b2 (b3 ++ (b4 ++ (b5 ++ (b6 ++ r7)))) s3 c.in_ok-extend_from_slice-2.ensures.items in
    let s1 = more o8 o2 o1 b1 (b2 ++ (b3 ++ (b4 ++ (b5 ++ (b6 ++ r7))))) s2 listed in
    let s0 =
    more o8 o1 o0 b0 (b1 ++ (b2 ++ (b3 ++ (b4 ++ (b5 ++ (b6 ++ r7)))))) s1
    c.in_ok-extend_from_slice.ensures.items in
    s0 ∙ ap (λ (z : ReplicationLog). o0 ++ log_text z) c.log.view_is
