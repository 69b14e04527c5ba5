use Rattle.std.proofs.Common.{◌∙◌, ◌++◌, ap, ℕ, List, codes}
use Rattle.std.specs.Prelude.{string_bytes}
use Rattle.json.specs.Print.{quoted}
use Rattle.hub_follow_model.specs.ReplicationLog.{HistoryEntry}
use Rattle.hub_follower.specs.LogText.{entry_text, seq_text}
use Rattle.hub_follower.proofs.Appends.{more}
use Rattle.hub_follower.proofs.log_text.put_entry.Goals as goal

pub returns : goal.returns
returns c =
    let entry = c.entry.inside in
    let o0 = c.args.out.now.items in
    let o1 = c.put_seq.new.out.items in
    let o2 = c.put_seq-2.new.out.items in
    let o3 = c.extend_from_slice.new.self.items in
    let o4 = c.put_quoted.new.out.items in
    let o5 = c.put_seq-3.new.out.items in
    let o6 = c.extend_from_slice-2.new.self.items in
    let r5 : List ℕ = codes "}" in
    let b4 : List ℕ = codes ",\"start_last_seq\":" ++ seq_text entry.start_last_seq in
    let b3 : List ℕ = quoted (string_bytes entry.session_id) in
    let b2 : List ℕ = codes ",\"session_id\":" in
    let b1 : List ℕ = codes ",\"recorded_seq\":" ++ seq_text entry.recorded_seq in
    let b0 : List ℕ = codes "{\"end_last_seq\":" ++ seq_text entry.end_last_seq in
    let named = c.in_ok-put_quoted.ensures.ok ∙ ap (λ z. o3 ++ quoted z) c.as_str.ensures.value in
    let s4 = more o6 o5 o4 b4 r5 c.in_ok-extend_from_slice-2.ensures.items c.in_ok-put_seq-3.ensures in
    let s3 = more o6 o4 o3 b3 (b4 ++ r5) s4 named in
    let s2 = more o6 o3 o2 b2 (b3 ++ (b4 ++ r5)) s3 c.in_ok-extend_from_slice.ensures.items in
    let s1 = more o6 o2 o1 b1 (b2 ++ (b3 ++ (b4 ++ r5))) s2 c.in_ok-put_seq-2.ensures in
    let s0 = more o6 o1 o0 b0 (b1 ++ (b2 ++ (b3 ++ (b4 ++ r5)))) s1 c.in_ok-put_seq.ensures in
    s0 ∙ ap (λ (z : HistoryEntry). o0 ++ entry_text z) c.entry.view_is
