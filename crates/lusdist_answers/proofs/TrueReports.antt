-- What a world reports is the text of the world, and true of each source of its job.
use Rattle.std.proofs.Common.{◌≡◌, ℕ, ◌+◌, ◌<◌, ◌≤◌, List, [], ◌∷◌, ◌++◌, length, take, drop, map, filter, flat_map, Option, Some, None, refl, sym, ap, ap₂, ◌∙◌, subst, arith, length-append}
use Rattle.std.specs.Prelude.{slice_get, slice_index, All, get_or, codes, unwrap_or}
use Rattle.std.specs.Fmt.{decimal}
use Rattle.std.specs.List.{range_with_len}
use Rattle.std.specs.Option.{option_map}
use Rattle.std.proofs.lemmas.List.{append-nil, length-map, length-take, length-drop, map-append, take-append-drop}
use Rattle.std.proofs.lemmas.List.FromFn.{take-map-range_with_len}
use Rattle.std.proofs.lemmas.List.Folds.{flat_map-map}
use Rattle.std.proofs.lemmas.List.Elements.{All-nil, All-cons}
use Rattle.std.proofs.lemmas.Grind.{flat_map-append}
use Rattle.std.proofs.lemmas.Option.{slice_get_within, slice_get-get_or, get_or_from_slice_get}
use Rattle.lutree.specs.Tree.{ProgramTree}
use Rattle.luflow.specs.declared.message.Msg.{Msg}
use Rattle.luflow.specs.declared.message.Body.{Body}
use Rattle.luflow.specs.Streams.{Known, Stream}
use Rattle.luflow.specs.Messages.{marks, messages, numbered, carried_bodies}
use Rattle.luflow.specs.declared.variable.Variable.{Variable}
use Rattle.luflow.specs.Flats.{IsFlat}
use Rattle.luflow.specs.Types.{variable_names}
use Rattle.luflow.specs.Variables.{is_output_of, variable_name}
use Rattle.luflow.proofs.Solutions.{some_at, IsSolution-solution}
use Rattle.luworld.specs.declared.link.Link.{Link}
use Rattle.luworld.specs.Needs.{sites_of, IsPlan}
use Rattle.luworld.specs.Systems.{done, put_count, taken_count}
use Rattle.luworld.specs.Outline.{HasEnded}
use Rattle.luworld.specs.Jobs.{JobView, streams_of, system_of, outline, link_list, carried}
use Rattle.luworld.specs.WorldViews.{WorldView, IsPrefixOf, AllEnded, taken_of, queued_of}
use Rattle.lusource.specs.Source.{SourceStreams, IsSourceSolution}
use Rattle.lusource.specs.Faults.{IsSourceFault}
use Rattle.lucore.specs.Result.{IsFlatOf, HasSourceFaults}
use Rattle.lusource.specs.RunSources.{IsMeant, source_list, source_stream}
use Rattle.lusource.specs.RunReports.{LinkLine, ended, SiteLine, OutputLine, RunReport, HasEndedSites, main_marks, IsLinkTrue, IsLinkWhole, IsOutputTrue, IsOutputWhole, IsEndingTrue, IsSiteTrue, names_reported, IsTrueOf}
use Rattle.lusite.specs.declared.next.Fault.{Fault}
use Rattle.lusite.specs.Machine.{IsStanding, IsFaultAt}
use Rattle.lusite.specs.declared.report.Standing.{Standing}
use Rattle.lusite.specs.declared.report.Standing.TheVariants.{Ended, Faulted, Cut}
use Rattle.luworld.proofs.Fitting.{fits}
use Rattle.lusite_program.proofs.SiteFlows.{output_there}
use Rattle.luweave.specs.Headline.{IsFaithful}
use Rattle.luweave_text.specs.WorldText.{body_text, site_name, site_line, standing_text, line_of, AreSiteLines, NoSites, OneSiteMore, AreOutputLines, NoVariables, NoOutput, OneOutputMore, IsWorldText}
use Rattle.lusdist_call.specs.RunReportTexts.{link_text, ending_text, site_text, output_text, run_report_text, link_line, link_there, link_lines, ending_of, IsSiteReported, IsOutputReported, IsReportedBy}
use Rattle.luweave_text.proofs.Texts.{count_reported, count_other}
use Rattle.luweave.proofs.NewSites.{pushed}
use Rattle.lusdist_answers.proofs.Spelled.{names_are}

-- the bodies of numbered messages
bodies : (n : ℕ) (bs : List Body) → map (λ (m : Msg). m.body) (numbered n bs) ≡ bs
bodies n [] = refl
bodies n (b ∷ bs) = ap (λ xs. b ∷ xs) (bodies (n + 1) bs)

-- a prefix, each of whose elements is changed alike
begins_mapped : {A B : Type 0} (f : A → B) (xs ys : List A) → IsPrefixOf xs ys → IsPrefixOf (map f xs) (map f ys)
begins_mapped f xs ys h = (map f h.0, sym (map-append f xs h.0) ∙ ap (map f) h.1)

-- the marks before an instant are a prefix of those before a later one
marks_begin : (s : Stream) (m n : ℕ) → m ≤ n → IsPrefixOf (marks s m) (marks s n)
marks_begin s m n le =
    (drop m (marks s n), ap (λ xs. xs ++ drop m (marks s n)) (sym (take-map-range_with_len s 0 n m le)) ∙ take-append-drop m (marks s n))

-- what holds of each element by its place holds of all
all_by_place : {X : Type 0} (P : X → Type 0) (xs : List X) → ((k : ℕ) (x : X) → slice_get xs k ≡ Some x → P x) → All P xs
all_by_place P xs h k d lt = h k (get_or xs k d) (slice_get-get_or xs k d lt)

of_all : {X : Type 0} (P : X → Type 0) (xs : List X) → All P xs → (k : ℕ) (x : X) → slice_get xs k ≡ Some x → P x
of_all P xs all k x at = subst P (get_or_from_slice_get xs k x x at) (all k x (slice_get_within xs k x at))

index_is : (xs : List ℕ) (i x : ℕ) → slice_get xs i ≡ Some x → slice_index xs i ≡ x
index_is xs i x at = get_or_from_slice_get xs i x 0 at

-- the main variable in whose equation a flow stands
pub record Owner (job : JobView) (place v : ℕ) : Type 0 where
  pub number : ℕ
  pub variable : Variable
  pub owner : slice_get job.plan.flat.owners place ≡ Some number
  pub there : slice_get job.plan.flat.variables number ≡ Some variable
  pub is : number ≡ v
  pub inside : number < length job.plan.flat.variables
  pub named : variable.name ≡ variable_name job.plan.flat v

-- a fault at which a site stopped is reported by the variable of its flow
pub owner_of : (job : JobView) (s : ℕ) (fault : Fault) → IsFlat job.plan.flat → (at : IsFaultAt job s fault) → Owner job at.place fault.variable
owner_of job s fault is at =
    let flat = job.plan.flat in
    let owner = some_at flat.owners at.place (subst (λ n. at.place < n) (sym is.owners_len) at.inside) in
    let owner_is : owner.0 ≡ fault.variable = sym (index_is flat.owners at.place owner.0 owner.1) ∙ at.owner in
    let inside : owner.0 < length flat.variables = of_all (λ v. v < length flat.variables) flat.owners is.owners_in at.place owner.0 owner.1 in
    let x = some_at flat.variables owner.0 inside in
    let named : x.0.name ≡ variable_name flat fault.variable = sym (ap (λ o. unwrap_or (option_map (λ (y : Variable). y.name) o) []) x.1) ∙ ap (variable_name flat) owner_is in
    record { number = owner.0; variable = x.0; owner = owner.1; there = x.1; is = owner_is; inside = inside; named = named }

module _ (w : WorldView) where
  abbrev there : ℕ → List LinkLine
  there l = link_there w (slice_get w.job.plan.links l) l

  -- what holds of each link that is there holds of all that is reported
  all_links : (P : LinkLine → Type 0) → ((l : ℕ) (link : Link) → slice_get w.job.plan.links l ≡ Some link → P (link_line w link l)) → (ls : List ℕ) → All P (flat_map there ls)
  all_links P h [] = All-nil P
  all_links P h (l ∷ ls) = go (slice_get w.job.plan.links l) refl (all_links P h ls)
    where
      go : (o : Option Link) → slice_get w.job.plan.links l ≡ o → All P (flat_map there ls) → All P (link_there w o l ++ flat_map there ls)
      go None e more = more
      go (Some link) e more = All-cons P (link_line w link l) (flat_map there ls) (h l link e) more

  -- the lines of the links are their texts
  line_is : (link : Link) (l : ℕ) → line_of w (Some link) l ≡ link_text (link_line w link l)
  line_is link l =
      ap (λ xs. codes_of ++ (xs ++ (codes " queued " ++ (decimal (length (queued_of w l)) ++ 10 ∷ []))))
      (sym (flat_map-map (body_text (variable_names w.job.plan.flat link.flow)) (λ (m : Msg). m.body) (taken_of w l)))
    where
      codes_of : List ℕ
      codes_of = codes "link " ++ (variable_name w.job.plan.flat link.flow ++ (codes " " ++ (site_name w.job.plan.names link.from ++ (codes " " ++ (site_name w.job.plan.names link.to ++ codes " taken")))))

  lines_are : (ls : List ℕ) → flat_map (λ l. line_of w (slice_get w.job.plan.links l) l) ls ≡ flat_map link_text (flat_map there ls)
  lines_are [] = refl
  lines_are (l ∷ ls) = ap₂ ◌++◌ (go (slice_get w.job.plan.links l)) (lines_are ls) ∙ sym (flat_map-append link_text (there l) (flat_map there ls))
    where
      go : (o : Option Link) → line_of w o l ≡ flat_map link_text (link_there w o l)
      go None = refl
      go (Some link) = line_is link l ∙ sym (append-nil (link_text (link_line w link l)))

  -- the sites that lines of sites report
  pub record SitesOf (n : ℕ) (lines : List ℕ) : Type 0 where
    pub reported : List SiteLine
    pub len : length reported ≡ n
    pub each : (s : ℕ) (site : SiteLine) → slice_get reported s ≡ Some site → IsSiteReported w s site
    pub text : flat_map site_text reported ≡ lines

  ending_is : (standing : Standing) → ending_text (ending_of w.job.plan.flat standing) ≡ standing_text w.job.plan.flat standing
  ending_is Ended = refl
  ending_is Cut = refl
  ending_is (Faulted fault) = refl

  abbrev site_of : ℕ → Standing → SiteLine
  site_of n standing = record { name = site_name w.job.plan.names n; ending = ending_of w.job.plan.flat standing }

  site_is : (n : ℕ) (standing : Standing) → site_text (site_of n standing) ≡ site_line w.job.plan n standing
  site_is n standing = ap (λ xs. codes "site " ++ (site_name w.job.plan.names n ++ codes " ") ++ (xs ++ 10 ∷ [])) (ending_is standing)

  sites_in : (n : ℕ) (lines : List ℕ) → AreSiteLines w n lines → SitesOf n lines
  sites_in _ _ NoSites = record { reported = []; len = refl; each = λ s site e. cc; text = refl }
  sites_in _ _ (OneSiteMore n lines standing are stands) =
      let before = sites_in n lines are in
      let site = site_of n standing in
      let here : IsSiteReported w n site = record { standing = standing; stands = stands; named = refl; ends = refl } in
      record {
        reported = before.reported ++ site ∷ [];
        len = length-append before.reported (site ∷ []) ∙ ap (λ k. k + 1) before.len;
        each = pushed (IsSiteReported w) before.reported site (subst (λ k. IsSiteReported w k site) (sym before.len) here) before.each;
        text = flat_map-append site_text before.reported (site ∷ []) ∙ ap₂ ◌++◌ before.text (append-nil (site_text site) ∙ site_is n standing);
      }

  -- the outputs that lines of outputs report
  pub record OutputsOf (v k : ℕ) (lines : List ℕ) : Type 0 where
    pub reported : List OutputLine
    pub len : length reported ≡ k
    pub count : k ≡ length (filter (is_output_of w.job.plan.flat) (range_with_len 0 v))
    pub each : (j : ℕ) (output : OutputLine) → slice_get reported j ≡ Some output → IsOutputReported w j output
    pub text : flat_map output_text reported ≡ lines

  outputs_in : (v k : ℕ) (lines : List ℕ) → AreOutputLines w v k lines → OutputsOf v k lines
  outputs_in _ _ _ NoVariables = record { reported = []; len = refl; count = refl; each = λ j output e. cc; text = refl }
  outputs_in _ _ _ (NoOutput v k lines are other) =
      let before = outputs_in v k lines are in
      record { reported = before.reported; len = before.len; count = count_other w v k lines are before.count other; each = before.each; text = before.text }
  outputs_in _ _ _ (OneOutputMore v k lines statuses are at collected) =
      let before = outputs_in v k lines are in
      let output : OutputLine = record { name = variable_name w.job.plan.flat v; names = variable_names w.job.plan.flat v; statuses = statuses } in
      let here : IsOutputReported w k output = record { variable = v; there = at; named = refl; spelled = refl; collected = collected } in
      record {
        reported = before.reported ++ output ∷ [];
        len = length-append before.reported (output ∷ []) ∙ ap (λ j. j + 1) before.len;
        count = count_reported w v k lines are before.count (output_there w.job.plan k v at).1;
        each = pushed (IsOutputReported w) before.reported output (subst (λ j. IsOutputReported w j output) (sym before.len) here) before.each;
        text = flat_map-append output_text before.reported (output ∷ []) ∙ ap₂ ◌++◌ before.text (append-nil (output_text output));
      }

  -- what the text of a world reports
  pub record ReportedIn (text : List ℕ) : Type 0 where
    pub reported : RunReport
    pub by : IsReportedBy w reported
    pub spelled : text ≡ run_report_text reported

  pub reported_in : (text : List ℕ) → IsWorldText w text → ReportedIn text
  reported_in text is =
      let s = sites_in (sites_of w.job.plan) is.site_lines is.sites_are in
      let o = outputs_in (length w.job.plan.flat.variables) is.outputs is.output_lines is.outputs_are in
      record {
        reported = record { links = link_lines w; sites = s.reported; outputs = o.reported };
        by = record { links = refl; sites_len = s.len; sites = s.each; outputs_len = o.len ∙ o.count; outputs = o.each };
        spelled = is.text_is ∙ ap₂ ◌++◌ (lines_are (range_with_len 0 (length w.job.plan.links))) (ap₂ ◌++◌ (sym s.text) (sym o.text));
      }

  -- where each line says so, each site has ended
  has_ended : (s : ℕ) (standing : Standing) → IsStanding w.job s (done w.dones s) standing → ending_of w.job.plan.flat standing ≡ ended → HasEnded (outline w.job (streams_of w.job)) w.dones s
  has_ended s Ended stands e = record { whole = stands.0; no_stop = stands.1 }
  has_ended s Cut stands e = cc
  has_ended s (Faulted fault) stands e = cc

  pub all_ended : (reported : RunReport) → IsReportedBy w reported → HasEndedSites reported → AllEnded w.job w.dones
  all_ended reported by all s lt =
      let x = some_at reported.sites s (subst (λ n. s < n) (sym by.sites_len) lt) in
      let site = by.sites s x.0 x.1 in
      has_ended s site.standing site.stands (sym site.ends ∙ of_all (λ (y : SiteLine). y.ending ≡ ended) reported.sites all s x.0 x.1)

  module _ (σ : SourceStreams) (meant : IsMeant w.job σ) (faithful : IsFaithful w.job w.dones) where
    -- the list of a link in the source, by the name of its variable
    list_is : (l : ℕ) (link : Link) → slice_get w.job.plan.links l ≡ Some link → map (λ (m : Msg). m.body) (source_list w.job σ l) ≡ carried_bodies (main_marks w.job.inputs σ (variable_name w.job.plan.flat link.flow))
    list_is l link at =
        let flow : carried w.job.plan l ≡ link.flow = ap (λ o. unwrap_or (option_map (λ (k : Link). k.flow) o) 0) at in
        ap (λ v. map (λ (m : Msg). m.body) (messages 0 (marks (source_stream w.job σ v) w.job.inputs.instants))) flow
        ∙ bodies 0 (carried_bodies (main_marks w.job.inputs σ (variable_name w.job.plan.flat link.flow)))

    link_true : (l : ℕ) (link : Link) → slice_get w.job.plan.links l ≡ Some link → IsLinkTrue w.job.inputs σ (link_line w link l)
    link_true l link at =
        let lt = slice_get_within w.job.plan.links l link at in
        let within = faithful.links σ l meant lt in
        let same = list_is l link at in
        let t = taken_count (system_of w.job) w.dones l in
        let p = put_count (system_of w.job) w.dones l in
        let list = link_list w.job (streams_of w.job) l in
        let a = length-map (taken_of w l) (λ (m : Msg). m.body) in
        let b = length-take t list in
        let c = length-drop t (take p list) in
        let d = length-take p list in
        let e = ap length same in
        let f = length-map (source_list w.job σ l) (λ (m : Msg). m.body) in
        record {
          taken = subst (IsPrefixOf (map (λ (m : Msg). m.body) (taken_of w l))) same (begins_mapped (λ (m : Msg). m.body) (taken_of w l) (source_list w.job σ l) (faithful.taken σ l meant lt).begun);
          waiting = omega (arith, a, b, c, d, e, f, within.put, within.taken);
        }

    link_whole : AllEnded w.job w.dones → (l : ℕ) (link : Link) → slice_get w.job.plan.links l ≡ Some link → IsLinkWhole w.job.inputs σ (link_line w link l)
    link_whole all l link at =
        let lt = slice_get_within w.job.plan.links l link at in
        ap (map (λ (m : Msg). m.body)) ((faithful.taken σ l meant lt).ended all) ∙ list_is l link at

    pub output_true : (k : ℕ) (output : OutputLine) → IsOutputReported w k output → IsOutputTrue w.job.inputs σ output
    output_true k output reported =
        let begun = (faithful.outputs σ k output.statuses meant reported.collected reported.variable reported.there).0 in
        let s = σ [] output.name in
        let is : map Known output.statuses ≡ marks s begun.0 = begun.2 ∙ ap (λ x. marks (σ [] x) begun.0) (sym reported.named) in
        subst (λ xs. IsPrefixOf xs (marks s w.job.inputs.instants)) (sym is) (marks_begin s begun.0 w.job.inputs.instants begun.1)

    output_whole : AllEnded w.job w.dones → (k : ℕ) (output : OutputLine) → IsOutputReported w k output → IsOutputWhole w.job.inputs σ output
    output_whole all k output reported =
        (faithful.outputs σ k output.statuses meant reported.collected reported.variable reported.there).1 all ∙ ap (λ x. marks (σ [] x) w.job.inputs.instants) (sym reported.named)

  -- a fault that is reported of a site is one of the source
  ending_true : (program : ProgramTree) (main : List ℕ) (σ : SourceStreams) → IsFlat w.job.plan.flat → HasSourceFaults program main w.job.plan.flat → IsSourceSolution program main w.job.inputs σ
      → (s : ℕ) (standing : Standing) → IsStanding w.job s (done w.dones s) standing → IsEndingTrue program main w.job.inputs σ (ending_of w.job.plan.flat standing)
  ending_true program main σ is faults solves s Ended stands = tt
  ending_true program main σ is faults solves s Cut stands = tt
  ending_true program main σ is faults solves s (Faulted fault) stands =
      let at = stands.1 in
      let owner = owner_of w.job s fault is at in
      subst (λ n. IsSourceFault program main w.job.inputs σ n fault.instant fault.kind) owner.named
      (faults w.job.inputs σ (streams_of w.job) solves (IsSolution-solution w.job.plan.flat w.job.inputs is.ordered) at.place owner.number fault.instant fault.kind owner.variable at.is owner.owner owner.there)

  site_true : (program : ProgramTree) (main : List ℕ) (σ : SourceStreams) → IsFlat w.job.plan.flat → HasSourceFaults program main w.job.plan.flat → IsSourceSolution program main w.job.inputs σ
      → (s : ℕ) (site : SiteLine) → IsSiteReported w s site → IsSiteTrue program main w.job.inputs σ site
  site_true program main σ is faults solves s site reported =
      subst (IsEndingTrue program main w.job.inputs σ) (sym reported.ends) (ending_true program main σ is faults solves s reported.standing reported.stands)

  abbrev all_there : List ℕ
  all_there = range_with_len 0 (length w.job.plan.links)

  -- data are spelled by the names that the source declares
  module _ (program : ProgramTree) (main : List ℕ) (names : (v : ℕ) → v < length w.job.plan.flat.variables → variable_names w.job.plan.flat v ≡ names_reported program main (variable_name w.job.plan.flat v)) where
    link_spelled : IsPlan w.job.plan → (l : ℕ) (link : Link) → slice_get w.job.plan.links l ≡ Some link → variable_names w.job.plan.flat link.flow ≡ names_reported program main (variable_name w.job.plan.flat link.flow)
    link_spelled plan l link at =
        let flow : carried w.job.plan l ≡ link.flow = ap (λ o. unwrap_or (option_map (λ (k : Link). k.flow) o) 0) at in
        names link.flow (subst (λ v. v < length w.job.plan.flat.variables) flow ((fits w.job.plan plan).carries l (slice_get_within w.job.plan.links l link at)))

    output_spelled : (k : ℕ) (output : OutputLine) → IsOutputReported w k output → output.names ≡ names_reported program main output.name
    output_spelled k output reported =
        reported.spelled ∙ names reported.variable (output_there w.job.plan k reported.variable reported.there).0 ∙ ap (names_reported program main) (sym reported.named)

  pub reported_true : (program : ProgramTree) (main : List ℕ) (reported : RunReport) → IsReportedBy w reported → IsFlatOf program main w.job.plan.flat → IsPlan w.job.plan → IsFaithful w.job w.dones → ((σ : SourceStreams) → IsSourceSolution program main w.job.inputs σ → IsMeant w.job σ) → IsTrueOf program main w.job.inputs reported
  reported_true program main reported by source plan faithful meant = record {
    faults = λ σ solves. all_by_place (IsSiteTrue program main w.job.inputs σ) reported.sites (λ s site at. site_true program main σ source.is_flat source.faults solves s site (by.sites s site at));
    links = λ σ solves. subst (All (IsLinkTrue w.job.inputs σ)) (sym by.links) (all_links (IsLinkTrue w.job.inputs σ) (link_true σ (meant σ solves) faithful) all_there);
    outputs = λ σ solves. all_by_place (IsOutputTrue w.job.inputs σ) reported.outputs (λ k output at. output_true σ (meant σ solves) faithful k output (by.outputs k output at));
    links_whole = λ σ solves all. subst (All (IsLinkWhole w.job.inputs σ)) (sym by.links) (all_links (IsLinkWhole w.job.inputs σ) (link_whole σ (meant σ solves) faithful (all_ended reported by all)) all_there);
    outputs_whole = λ σ solves all. all_by_place (IsOutputWhole w.job.inputs σ) reported.outputs (λ k output at. output_whole σ (meant σ solves) faithful (all_ended reported by all) k output (by.outputs k output at));
    link_names = subst (All (λ (link : LinkLine). link.names ≡ names_reported program main link.variable)) (sym by.links) (all_links (λ (link : LinkLine). link.names ≡ names_reported program main link.variable) (link_spelled program main (names_are program main w.job.plan.flat source) plan) all_there);
    output_names = all_by_place (λ (output : OutputLine). output.names ≡ names_reported program main output.name) reported.outputs (λ k output at. output_spelled program main (names_are program main w.job.plan.flat source) k output (by.outputs k output at));
  }
