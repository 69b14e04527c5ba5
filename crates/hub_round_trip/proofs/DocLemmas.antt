-- A document that is read is a document whose text reads back.
use Rattle.std.proofs.Common.{◌≡◌, ℕ, ◌-◌, ◌<◌, ◌≤◌, ◌^◌, max, List, [], ◌∷◌, length, Bool, true}
use Rattle.std.proofs.Common.{false, cond, Option, Some, None, option_map, option_and_then, codes}
use Rattle.std.proofs.Common.{IsUtf8, refl, ap, ◌∙◌, subst, arith, eqb, ltb}
use Rattle.std.proofs.lemmas.Bool.Decides.{nat_tests, Decides-eqb}
use Rattle.std.proofs.lemmas.List.Elements.{All-from_recursion}
use Rattle.std.proofs.lemmas.List.Sums.{AllPass-from_list_all}
use Rattle.std.proofs.lemmas.Option.{option_and_then_some, cond_some}
use Rattle.std.specs.List.{AllByRecursion}
use Rattle.std.specs.Prelude.{⊤, ◌&&◌, not, is_some, nat_lt, slice_get, Result, Ok, IfSome}
use Rattle.hub_model.specs.Path.{IsHistory}
use Rattle.hub_model.specs.Revision.{Revision, IsRevision, is_hash_byte}
use Rattle.serde_json.specs.Data.{Data, null, boolean, number, string, array, object, Items}
use Rattle.serde_json.specs.Data.{no_items, item, Members, no_members, member, depth, members_depth}
use Rattle.serde_json.specs.Find.{get, as_str, as_object, as_array, as_number, as_u64}
use Rattle.serde_json.specs.Read.{max_depth}
use Rattle.serde_json.specs.Written.{members_have_float}
use Rattle.serde_json.proofs.Nesting.{depth-read}
use Rattle.hub_document.specs.BodyText.{is_hidden, plain, body_text}
use Rattle.hub_document.specs.Histories.{rev_in, read_or, rev_of, falling, limited_history}
use Rattle.hub_document.specs.Histories.{history_in, is_head, if_head, alone, path_of}
use Rattle.hub_document.specs.Ids.{id_of, if_id, is_id}
use Rattle.hub_document.specs.Read.{or_fault, if_holds, history_of, with_path}
use Rattle.hub_document.specs.Read.{with_id, document_of, json_of, doc_in}
use Rattle.hub_document.specs.RevisionText.{is_hash, with_hash, revision_of}
use Rattle.hub_round_trip.specs.RoundTrip.{IsWritable, AreWritableMembers, IsOrdered}
use Rattle.hub_round_trip.specs.RoundTrip.{AreOrderedMembers, IsBody, IsPathOf, IsDoc}
use Rattle.hub_document.specs.SpecialMembers.{are_good_members, deleted_of}
use Rattle.hub_document.specs.declared.doc.DocFault.{DocFault}
use Rattle.hub_document.specs.declared.doc.DocFault.TheVariants.{NotJson, NotObject, BadNumber, BadId}
use Rattle.hub_document.specs.declared.doc.DocFault.TheVariants.{BadRev, BadRevisions, BadMember, TooLong}
use Rattle.hub_document.specs.declared.doc.Doc.{Doc}
use Rattle.hub_document.proofs.PathLemmas.{map_some, history_is_path, one_is_history}
use Rattle.hub_round_trip.proofs.MemberLemmas.{rise_plain, own_plain}
use Rattle.hub_round_trip.proofs.ReadLemmas.{json_of_is, member_writable}
use Rattle.hub_document.proofs.TextLemmas.{IsRevision-revision_of}

-- ---- steps that may fail

or_fault_ok : {A B P : Type 0} (o : Option A) (fault : DocFault) (next : A → Result B DocFault) (b : B)
    → or_fault o fault next ≡ Ok b → ((a : A) → o ≡ Some a → next a ≡ Ok b → P) → P
or_fault_ok None fault next b h go = absurd (cc)
or_fault_ok (Some a) fault next b h go = go a refl h

holds : (b : Bool) (u : ⊤) → if_holds b ≡ Some u → b ≡ true
holds true u e = refl
holds false u e = absurd (cc)

-- ---- the id

string_is : (content : Data) (s : List ℕ) → as_str content ≡ Some s → IsWritable content → IsUtf8 s
string_is null s e w = absurd (cc)
string_is (boolean b) s e w = absurd (cc)
string_is (number n) s e w = absurd (cc)
string_is (string t) s e w = let is : t ≡ s = cc in subst IsUtf8 is w
string_is (array ds) s e w = absurd (cc)
string_is (object ms) s e w = absurd (cc)

-- `_id` gives an id of any length, in UTF-8
id_is : (ms : Members) (id : List ℕ) → AreWritableMembers ms → id_of (object ms) ≡ Some id
    → (is_id id ≡ true) × IsUtf8 id
id_is ms id w e =
    option_and_then_some {P = (is_id id ≡ true) × IsUtf8 id} if_id
    (option_and_then as_str (get (codes "_id") (object ms))) id e (λ s text good. option_and_then_some
    {P = (is_id id ≡ true) × IsUtf8 id} as_str (get (codes "_id") (object ms)) s text (λ d there is.
    let id_good = cond_some (is_id s) s id good in
    let utf8 : IsUtf8 s =
    string_is d s is (subst (λ o. IfSome o IsWritable) there (member_writable (codes "_id") ms w)) in
    subst (λ i. (is_id i ≡ true) × IsUtf8 i) id_good.1 (id_good.0, utf8)))

-- ---- the revision

missing_is : (b : Bool) (rev : Option Revision) → cond b (Some None) None ≡ Some rev → IfSome rev IsRevision
missing_is true rev e = let is : None ≡ rev = cc in subst (λ r. IfSome r IsRevision) is tt
missing_is false rev e = absurd (cc)

rev_is : (maybe_content : Option Data) (missing : Bool) (rev : Option Revision)
    → read_or (cond missing (Some None) None) (λ r. option_map Some (rev_in r)) maybe_content ≡ Some rev
    → IfSome rev IsRevision
rev_is None missing rev e = missing_is missing rev e
rev_is (Some content) missing rev e =
    map_some {P = IfSome rev IsRevision} Some (rev_in content) rev e (λ r read is.
    option_and_then_some {P = IfSome rev IsRevision} revision_of (as_str content) r read (λ s text revision.
    subst (λ x. IfSome x IsRevision) is (IsRevision-revision_of s r revision)))

-- ---- the history

hash_is : (n : ℕ) (h : List ℕ) (revision : Revision) → 0 < n → n < 2 ^ 16 → with_hash n h ≡ Some revision
    → IsRevision revision
hash_is n h revision some small e =
    let c = cond_some (is_hash h) _ revision e in
    let good = c.0 in
    let is : IsRevision (record { generation = n; hash = h }) =
    record {
      from_one = omega arith;
      below = small;
      some = grind (arith, nat_tests);
      short = grind (arith, nat_tests);
      letters = AllPass-from_list_all is_hash_byte h (grind (arith, nat_tests));
    } in
    subst IsRevision c.1 is

revs_item : (n : ℕ) (content : Data) (ds : Items) (revisions : List Revision) (t : Bool) → eqb n 0 ≡ t
    → n < 2 ^ 16 → falling n (item content ds) ≡ Some revisions
    → ((rest : List Revision) → falling (n - 1) ds ≡ Some rest → AllByRecursion IsRevision rest)
    → AllByRecursion IsRevision revisions
revs_item n content ds revisions true z small h later =
    let e : None ≡ Some revisions = rw z at h in absurd (cc)
revs_item n content ds revisions false z small h later =
    let some : 0 < n = grind (arith, nat_tests) in
    option_and_then_some {P = AllByRecursion IsRevision revisions}
    (λ r. option_map (λ rest. r ∷ rest) (falling (n - 1) ds))
    (option_and_then (with_hash n) (as_str content)) revisions
    (rw z at h) (λ r read more.
    map_some {P = AllByRecursion IsRevision revisions} (λ rest. r ∷ rest) (falling (n - 1) ds) revisions more
    (λ rest ends is. option_and_then_some {P = AllByRecursion IsRevision revisions} (with_hash n)
    (as_str content) r read
    (λ s text hash. subst (AllByRecursion IsRevision) is (hash_is n s r some small hash, later rest ends))))

revs_of_falling : (n : ℕ) (ds : Items) (revisions : List Revision) → n < 2 ^ 16
    → falling n ds ≡ Some revisions → AllByRecursion IsRevision revisions
revs_of_falling n no_items revisions small h =
    let is : [] ≡ revisions = cc in subst (AllByRecursion IsRevision) is tt
revs_of_falling n (item d ds) revisions small h =
    revs_item n d ds revisions _ refl small h (λ rest. revs_of_falling (n - 1) ds rest (omega arith))

revs_starting : (start : ℕ) (ids : Items) (revisions : List Revision) → limited_history start ids ≡ Some revisions
    → AllByRecursion IsRevision revisions
revs_starting start no_items revisions h = absurd (cc)
revs_starting start (item d ds) revisions h = from (ltb 0 start && ltb start (2 ^ 16)) refl h
  where
    from : (t : Bool) → (ltb 0 start && ltb start (2 ^ 16)) ≡ t → limited_history start (item d ds) ≡ Some revisions
        → AllByRecursion IsRevision revisions
    from true fits h = revs_of_falling start (item d ds) revisions (grind (arith, nat_tests)) (rw fits at h)
    from false fits h =
        let e : ◌≡◌ {A = Option (List Revision)} None (Some revisions) = rw fits at h in absurd (cc)

revs_of_history : (content : Data) (revisions : List Revision) → history_in content ≡ Some revisions
    → AllByRecursion IsRevision revisions
revs_of_history content revisions h =
    option_and_then_some {P = AllByRecursion IsRevision revisions}
    (λ start. option_and_then (limited_history start) (option_and_then as_array (get (codes "ids") content)))
    (option_and_then as_u64 (option_and_then as_number (get (codes "start") content))) revisions h
    (λ start first more.
    option_and_then_some {P = AllByRecursion IsRevision revisions}
    (limited_history start) (option_and_then as_array (get (codes "ids") content)) revisions more
    (λ ids list read. revs_starting start ids revisions read))

-- a history of revisions within the limits
abbrev IsGood : List Revision → Type 0
IsGood path = IsHistory path × AllByRecursion IsRevision path

alone_is : (rev : Option Revision) (path : List Revision) → IfSome rev IsRevision → alone rev ≡ Some path
    → IsGood path
alone_is None path good e = absurd (cc)
alone_is (Some revision) path good e =
    let is : revision ∷ [] ≡ path = cc in
    subst IsGood is (one_is_history revision good.from_one, (good, tt))

path_is : (maybe_content : Option Data) (rev : Option Revision) (path : List Revision) → IfSome rev IsRevision
    → read_or (alone rev) (λ content. option_and_then (if_head rev) (history_in content)) maybe_content ≡ Some
    path → IsGood path
path_is None rev path good e = alone_is rev path good e
path_is (Some content) rev path good e =
    option_and_then_some {P = IsGood path} (if_head rev) (history_in content) path e (λ rs read head.
    let c = cond_some (is_head rev rs) rs path head in
    subst IsGood c.1 (history_is_path content rs read, revs_of_history content rs read))

-- the head and the path of an edit
record IsHistoryOf (new_edits : Bool) (p : Option Revision × Option (List Revision)) : Type 0 where
  rev : IfSome p.0 IsRevision
  path : IfSome p.1 (IsPathOf p.0)
  kind : is_some p.1 ≡ not new_edits

head_of : (path : List Revision) → AllByRecursion IsRevision path → IfSome (slice_get path 0) IsRevision
head_of [] h = tt
head_of (revision ∷ path) h = h.0

history_is : (new_edits : Bool) (rev : Option Revision) (content : Data)
    (p : Option Revision × Option (List Revision))
    → IfSome rev IsRevision → history_of new_edits rev content ≡ Some p → IsHistoryOf new_edits p
history_is true rev content p good e =
    let is : (rev, None) ≡ p = cc in
    subst (IsHistoryOf true) is (record { rev = good; path = tt; kind = refl })
history_is false rev content p good e =
    map_some {P = IsHistoryOf false p} (λ path. (slice_get path 0, Some path)) (path_of rev content) p e
    (λ path read is.
    let h = path_is (get (codes "_revisions") content) rev path good read in
    subst (IsHistoryOf false) is
    (record {
      rev = head_of path h.1;
      path = record { history = h.0; revisions = All-from_recursion IsRevision path h.1; head = refl };
      kind = refl;
    }))

-- ---- the body

writable_plain : (ms : Members) → AreWritableMembers ms → AreWritableMembers (plain ms)
writable_plain no_members h = tt
writable_plain (member k d ms) h = at (is_hidden k) (writable_plain ms h.2)
  where
    at : (b : Bool) → AreWritableMembers (plain ms)
        → AreWritableMembers (cond b (plain ms) (member k d (plain ms)))
    at true rest = rest
    at false rest = (h.0, h.1, rest)

ordered_plain : (ms : Members) → AreOrderedMembers ms → AreOrderedMembers (plain ms)
ordered_plain no_members h = tt
ordered_plain (member k d ms) h = at (is_hidden k) (ordered_plain ms h.1)
  where
    at : (b : Bool) → AreOrderedMembers (plain ms)
        → AreOrderedMembers (cond b (plain ms) (member k d (plain ms)))
    at true rest = rest
    at false rest = (h.0, rest)

plain_depth : (ms : Members) → members_depth (plain ms) ≤ members_depth ms
plain_depth no_members = omega arith
plain_depth (member k d ms) = at (is_hidden k) (plain_depth ms)
  where
    at : (b : Bool) → members_depth (plain ms) ≤ members_depth ms
        → members_depth (cond b (plain ms) (member k d (plain ms))) ≤ max (depth d) (members_depth ms)
    at true rest = omega arith
    at false rest = omega arith

body_is : (ms : Members) → AreWritableMembers ms → IsOrdered (object ms) → depth (object ms) ≤ max_depth
    → IsBody (body_text ms)
body_is ms w o shallow =
    record {
      members = plain ms;
      text_is = refl;
      own = own_plain ms;
      writable = writable_plain ms w;
      ordered = (rise_plain ms o.0, ordered_plain ms o.1);
      shallow = omega (arith, plain_depth ms);
    }

-- ---- the document

abbrev Reads : Bool → Doc → Type 0
Reads new_edits doc = IsDoc doc × (is_some doc.path ≡ not new_edits)

object_is : (content : Data) (ms : Members) → as_object content ≡ Some ms → content ≡ object ms
object_is null ms e = absurd (cc)
object_is (boolean b) ms e = absurd (cc)
object_is (number n) ms e = absurd (cc)
object_is (string s) ms e = absurd (cc)
object_is (array ds) ms e = absurd (cc)
object_is (object ns) ms e = let is : ns ≡ ms = cc in ap object is

module _ (new_edits : Bool) (ms : Members) (d : Doc) (w : AreWritableMembers ms) (o : IsOrdered (object ms))
    (shallow : depth (object ms) ≤ max_depth) where
  rest_is : (id : List ℕ) (p : Option Revision × Option (List Revision)) → (is_id id ≡ true) × IsUtf8 id
      → IsHistoryOf new_edits p → with_path (object ms) ms id p.0 p.1 ≡ Ok d → Reads new_edits d
  rest_is id p good h e =
      or_fault_ok {P = Reads new_edits d} (if_holds (are_good_members ms)) BadMember _ d e (λ u members more.
      or_fault_ok {P = Reads new_edits d} (if_holds (not (nat_lt 512 (length id)))) TooLong _ d more
      (λ v fits made.
      let short = holds (not (nat_lt 512 (length id))) v fits in
      let made_of : Doc =
      record { id = id; rev = p.0; path = p.1; deleted = deleted_of (object ms); body = body_text ms } in
      let is : made_of ≡ d = cc in
      let doc : IsDoc made_of = record {
        id = record { id = good.0; short = grind (arith, nat_tests) };
        utf8 = good.1;
        rev = h.rev;
        path = h.path;
        body = body_is ms w o shallow;
      } in
      subst (Reads new_edits) is (doc, h.kind)))

  id_known : (id : List ℕ) → id_of (object ms) ≡ Some id → with_id new_edits (object ms) ms id ≡ Ok d
      → Reads new_edits d
  id_known id found e =
      or_fault_ok {P = Reads new_edits d} (rev_of new_edits (object ms)) BadRev _ d e (λ rev named more.
      or_fault_ok {P = Reads new_edits d} (history_of new_edits rev (object ms)) BadRevisions _ d more
      (λ p history made. rest_is id p (id_is ms id w found)
      (history_is new_edits rev (object ms) p (rev_is (get (codes "_rev") (object ms)) _ rev named) history)
      made))

doc_is : (new_edits : Bool) (text : List ℕ) (content : Data) (ms : Members) (doc : Doc)
    → json_of text ≡ Some content
    → content ≡ object ms → document_of new_edits content ms ≡ Ok doc → Reads new_edits doc
doc_is new_edits text content ms doc json is e =
    let here : json_of text ≡ Some (object ms) = json ∙ ap Some is in
    let known = json_of_is text (object ms) here in
    let made : document_of new_edits (object ms) ms ≡ Ok doc =
    subst (λ x. document_of new_edits x ms ≡ Ok doc) is e in
    or_fault_ok {P = Reads new_edits doc} (if_holds (not (members_have_float ms))) BadNumber _ doc made
    (λ u whole more.
    let no_float : members_have_float ms ≡ false =
    negated (members_have_float ms) (holds (not (members_have_float ms)) u whole) in
    or_fault_ok {P = Reads new_edits doc} (id_of (object ms)) BadId _ doc more (λ id found rest.
    id_known new_edits ms doc (known.1 no_float) known.0 (depth-read text (object ms) known.2) id found rest))
  where
    negated : (b : Bool) → not b ≡ true → b ≡ false
    negated true h = absurd (cc)
    negated false h = refl

pub reads_are_docs : (new_edits : Bool) (text : List ℕ) (doc : Doc) → doc_in new_edits text ≡ Ok doc
    → IsDoc doc × (is_some doc.path ≡ not new_edits)
reads_are_docs new_edits text doc e =
    or_fault_ok {P = Reads new_edits doc} (json_of text) NotJson _ doc e (λ v json more.
    or_fault_ok {P = Reads new_edits doc} (as_object v) NotObject _ doc more (λ ms members made.
    doc_is new_edits text v ms doc json (object_is v ms members) made))
