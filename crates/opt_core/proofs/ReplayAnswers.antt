-- What is replied to the files of a replay, and which of them has failed.
use Rattle.std.proofs.Common.{◌≡◌, ◌≢◌, ◌⊎◌, ℕ, ◌+◌, ◌≤◌, List, [], length, take, Bool, true, false, Option, Some, None, IfSome, Result, Ok, Err, IfOk, IfErr, refl, sym, ap, ◌∙◌, subst, arith, inl, inr, codes}
use Rattle.std.specs.Str.{bytes_eq}
use Rattle.std.proofs.lemmas.List.{length-map}
use Rattle.std.proofs.lemmas.Slice.Eq.{bytes_eq-Decides}
use Rattle.ir_core.specs.declared.module.Module.{Module}
use Rattle.ir_core.specs.declared.answers.OutOfMemory.{OutOfMemory}
use Rattle.ir_core.specs.MachineOff.{machine_off}
use Rattle.ir_core.specs.Tokens.{text_limit}
use Rattle.checked_modules.specs.Checked.{HasNoRefusal}
use Rattle.mem_model.specs.declared.launch.Launch.{Launch}
use Rattle.mem_model.specs.declared.step.End.{End}
use Rattle.mem_model.specs.declared.step.End.TheVariants.{Running, Ended, Stuck, Trapped}
use Rattle.team_model.specs.declared.Pair.{Pair}
use Rattle.team_model.specs.Team.{Team, team_start, team_end}
use Rattle.refine_laws.proofs.Refining.{machine_off_refines}
use Rattle.run_text.specs.declared.launch.LaunchFault.{LaunchFault}
use Rattle.run_text.specs.declared.schedule.ScheduleFault.{ScheduleFault}
use Rattle.run_text.specs.LaunchText.{launch_limit, LaunchOf}
use Rattle.run_text.specs.ScheduleText.{schedule_limit, PairsOf}
use Rattle.run_text.proofs.Fitting.{launch_fits}
use Rattle.run_text.proofs.ReadFronts.{launch_front, pairs_front}
use Rattle.thread_state.specs.Seen.{thread_seen}
use Rattle.interp.specs.declared.team.Team.{Team as TeamData}
use Rattle.interp.specs.Teams.{team_seen}
use Rattle.replay.specs.Turns.{turns, replayed, ReplayOf}
use Rattle.replay.specs.Reports.{end_status}
use Rattle.replay.proofs.RunLaws.{replay_is_a_run}
use Rattle.io_edge.specs.declared.transfer.ReadFault.{ReadFault}
use Rattle.io_edge.specs.declared.transfer.ReadFault.TheVariants.{Failed}
use Rattle.io_edge.specs.Outside.{Rose}
use Rattle.opt_core.specs.declared.reply.Reply.{Reply}
use Rattle.opt_core.specs.Answer.{Accepts, IsTextRefused, OfText}
use Rattle.opt_core.specs.Replay.{Paths, IsRunReply, IsPairsReply, IsScheduleReply, IsLaunchReply, IsModuleReply, IsFilesReply, IsReplayAnswer, HasOneRisen, HasFailed, IsReplayFailure}
use Rattle.opt_core.specs.ReplayStages.{IsReported, SpellsLaunch, HasRisenBehind}
use Rattle.opt_core.proofs.Front.{of_read, accepts_whole, refused_whole}

-- ---- the steps of a schedule

-- a team at its start, as it is seen
pub starts_alike : (o out m : Module) (l : Launch) (ps pairs : List Pair) (team : TeamData) → o ≡ out → out ≡ m → ps ≡ pairs → team_seen out team ≡ team_start out l → replayed o l.steps (turns 1 ps) (team_seen o team) ≡ ReplayOf m l pairs
starts_alike o out m l ps pairs team same is listed start =
    ap (λ n. replayed n l.steps (turns 1 ps) (team_seen n team)) same
    ∙ ap (replayed out l.steps (turns 1 ps)) start
    ∙ ap (λ n. ReplayOf n l ps) is
    ∙ ap (ReplayOf m l) listed

module _ (m : Module) (l : Launch) (pairs : List Pair) where
  abbrev IsRunReplied : Result Team ScheduleFault → Result Reply OutOfMemory → Type 0
  IsRunReplied x reply = IfOk reply (λ r. IsRunReply m l pairs x r.status r.out r.notes)

  reported_by : (o : Module) (team : TeamData) (reply : Result Reply OutOfMemory) → ReplayOf (machine_off m) l pairs ≡ Ok (team_seen o team) → IfOk reply (λ r. (n : Module) → IsReported m l (team_seen n team) pairs r.status r.out r.notes) → IsRunReplied (Ok (team_seen o team)) reply
  reported_by o team (Ok r) e h = let k = h o in (replay_is_a_run (machine_off m) l pairs (team_seen o team) e, k.0, k.1, k.2)
  reported_by o team (Err x) e h = tt

  pub run_reply : (expected : Result Team ScheduleFault) (o : Module) (team : TeamData) (reply : Result Reply OutOfMemory) → expected ≡ ReplayOf (machine_off m) l pairs → expected ≡ Ok (team_seen o team) →
      IfOk reply (λ r. (n : Module) → IsReported m l (team_seen n team) pairs r.status r.out r.notes) → IsRunReplied (ReplayOf (machine_off m) l pairs) reply
  run_reply expected o team reply of is h =
      let e = sym of ∙ is in
      subst (λ (x : Result Team ScheduleFault). IsRunReplied x reply) (sym e) (reported_by o team reply e h)

-- ---- the text of a schedule

-- the number of threads of a team
pub threads_alike : (o m : Module) (l : Launch) (team : TeamData) (n : ℕ) → o ≡ m → team_seen o team ≡ team_start o l → n ≡ length team.threads.items → n ≡ length (team_start m l).threads
threads_alike o m l team n same start e = e ∙ sym (length-map team.threads.items (thread_seen o)) ∙ ap (λ (s : Team). length s.threads) start ∙ ap (λ k. length (team_start k l).threads) same

module _ (m : Module) (l : Launch) (text : List ℕ) (n : ℕ) (threads : n ≡ length (team_start (machine_off m) l).threads) where
  pub schedule_reply : (x : Result (List Pair) ScheduleFault) (reply : Result Reply OutOfMemory) → PairsOf text n ≡ x → IfOk reply (λ r. IsPairsReply m l x r.status r.out r.notes) → IfOk reply (λ r. IsScheduleReply m l text r.status r.out r.notes)
  schedule_reply x reply e h = subst (λ (y : Result (List Pair) ScheduleFault). IfOk reply (λ r. IsPairsReply m l y r.status r.out r.notes)) (sym e ∙ ap (PairsOf text) threads) h

-- ---- files

-- what is read of a file up to a limit
pub read_to : (held : Option (List ℕ)) (bytes slice : List ℕ) (n limit : ℕ) → n ≡ limit → slice ≡ bytes → IfSome held (λ content. bytes ≡ take n content) → IfSome held (λ content. slice ≡ take limit content)
read_to None bytes slice n limit e same h = tt
read_to (Some content) bytes slice n limit e same h = same ∙ h ∙ ap (λ k. take k content) e

schedule_whole : (m : Module) (l : Launch) (status : ℕ) (out notes text : List ℕ) → IsScheduleReply m l (take (schedule_limit + 1) text) status out notes → IsScheduleReply m l text status out notes
schedule_whole m l status out notes text = subst (λ (x : Result (List Pair) ScheduleFault). IsPairsReply m l x status out notes) (pairs_front (length (team_start (machine_off m) l).threads) text)

launch_whole : (m : Module) (schedule : Option (List ℕ)) (status : ℕ) (out notes text : List ℕ) → IsLaunchReply m schedule (LaunchOf m (take (launch_limit + 1) text)) status out notes → IsLaunchReply m schedule (LaunchOf m text) status out notes
launch_whole m schedule status out notes text = subst (λ (x : Result Launch LaunchFault). IsLaunchReply m schedule x status out notes) (launch_front m text)

spells_whole : (m : Module) (text : List ℕ) → SpellsLaunch m (take (launch_limit + 1) text) → SpellsLaunch m text
spells_whole m text (l, e) = (l, sym (launch_front m text) ∙ e)

pub schedule_file : (m : Module) (l : Launch) (held : Option (List ℕ)) (bytes : List ℕ) (r : Reply) → IfSome held (λ content. bytes ≡ take (schedule_limit + 1) content) → IsScheduleReply m l bytes r.status r.out r.notes → OfText held (λ text. IsScheduleReply m l text r.status r.out r.notes)
schedule_file m l held bytes r = of_read (λ text. IsScheduleReply m l text r.status r.out r.notes) (schedule_limit + 1) held bytes (schedule_whole m l r.status r.out r.notes)

-- ---- launches

pub launch_reply : (m : Module) (schedule : Option (List ℕ)) (text : List ℕ) (l : Launch) (reply : Result Reply ReadFault) → HasNoRefusal m → LaunchOf m text ≡ Ok l → IfOk reply (λ r. OfText schedule (λ t. IsScheduleReply m l t r.status r.out r.notes)) →
    IfOk reply (λ r. IsLaunchReply m schedule (LaunchOf m text) r.status r.out r.notes)
launch_reply m schedule text l reply rules e h = subst (λ (x : Result Launch LaunchFault). IfOk reply (λ r. IsLaunchReply m schedule x r.status r.out r.notes)) (sym e) (by reply h)
  where
    by : (reply : Result Reply ReadFault) → IfOk reply (λ r. OfText schedule (λ t. IsScheduleReply m l t r.status r.out r.notes)) → IfOk reply (λ r. IsLaunchReply m schedule (Ok l) r.status r.out r.notes)
    by (Ok r) k = (launch_fits m rules text l e, k)
    by (Err x) k = tt

-- ---- counts of faults

-- no count falls where one name is read
pub never_falls : (before after : List ℕ → ℕ) (name : List ℕ) → before name ≤ after name → ((other : List ℕ) → other ≢ name → after other ≡ before other) → (other : List ℕ) → before other ≤ after other
never_falls before after name later others other = by (bytes_eq other name) refl
  where
    by : (b : Bool) → bytes_eq other name ≡ b → before other ≤ after other
    by true e = subst (λ x. before x ≤ after x) (sym ((bytes_eq-Decides other name).0 e)) later
    by false e = let same = others other (λ is. let f : ⊥ = let eq : bytes_eq other name ≡ true = (bytes_eq-Decides other name).1 is in cc in f) in omega (arith, same)

rose_before : (before between after : ℕ) → before ≤ between → Rose between after → Rose before after
rose_before before between after low rose = omega arith

-- ---- the file of a launch

module _ (m : Module) (held : List ℕ → Option (List ℕ)) (p : Paths) (bytes : List ℕ) (read : IfSome (held p.launch) (λ content. bytes ≡ take (launch_limit + 1) content)) where
  pub launch_file : (schedule : Option (List ℕ)) (reply : Result Reply ReadFault) → schedule ≡ held p.schedule → IfOk reply (λ r. IsLaunchReply m schedule (LaunchOf m bytes) r.status r.out r.notes) →
      IfOk reply (λ r. OfText (held p.launch) (λ l. IsLaunchReply m (held p.schedule) (LaunchOf m l) r.status r.out r.notes))
  launch_file schedule (Ok r) same h =
      of_read (λ l. IsLaunchReply m (held p.schedule) (LaunchOf m l) r.status r.out r.notes) (launch_limit + 1) (held p.launch) bytes (launch_whole m (held p.schedule) r.status r.out r.notes) read
      (subst (λ s. IsLaunchReply m s (LaunchOf m bytes) r.status r.out r.notes) same h)
  launch_file schedule (Err x) same h = tt

  pub behind_launch : (before between after : List ℕ → ℕ) (reply : Result Reply ReadFault) → ((other : List ℕ) → before other ≤ between other) → IfErr reply (λ e. e ≡ Failed → SpellsLaunch m bytes × Rose (between p.schedule) (after p.schedule)) →
      IfErr reply (λ e. e ≡ Failed → HasRisenBehind m held p before after)
  behind_launch before between after (Ok r) low h = tt
  behind_launch before between after (Err x) low h =
      λ failed.
      let k = h failed in
      inr (of_read (SpellsLaunch m) (launch_limit + 1) (held p.launch) bytes (spells_whole m) read k.0, rose_before (before p.schedule) (between p.schedule) (after p.schedule) (low p.schedule) k.1)

-- ---- the file of a module

module _ (held : List ℕ → Option (List ℕ)) (p : Paths) (bytes : List ℕ) (read : IfSome (held p.module) (λ content. bytes ≡ take (text_limit + 1) content)) where
  abbrev IsReplied : List ℕ → Reply → Type 0
  IsReplied text r = IsTextRefused text r.status r.out r.notes ⊎ IsModuleReply (held p.launch) (held p.schedule) text r.status r.out r.notes

  replied_whole : (r : Reply) (text : List ℕ) → IsReplied (take (text_limit + 1) text) r → IsReplied text r
  replied_whole r text (inl refused) = inl (refused_whole text r.status r.out r.notes refused)
  replied_whole r text (inr (m, accepts, refines, reply)) = inr (m, accepts_whole text m accepts, refines, reply)

  replied : (r : Reply) → IsReplied bytes r → IsFilesReply held p r.status r.out r.notes
  replied r = of_read (λ text. IsReplied text r) (text_limit + 1) (held p.module) bytes (replied_whole r) read

  pub module_file : (told : List ℕ → Option (List ℕ)) (m : Module) (reply : Result Reply ReadFault) → ((other : List ℕ) → told other ≡ held other) → Accepts bytes m →
      IfOk reply (λ r. OfText (told p.launch) (λ l. IsLaunchReply m (told p.schedule) (LaunchOf m l) r.status r.out r.notes)) → IfOk reply (λ r. IsFilesReply held p r.status r.out r.notes)
  module_file told m (Err x) same accepts h = tt
  module_file told m (Ok r) same accepts h =
      let all : told ≡ held = λ i. λ other. same other i in
      let reply = subst (λ (t : List ℕ → Option (List ℕ)). OfText (t p.launch) (λ l. IsLaunchReply m (t p.schedule) (LaunchOf m l) r.status r.out r.notes)) all h in
      replied r (inr (m, accepts, (λ form l fits. machine_off_refines m l form fits), reply))

  pub module_refused : (r : Reply) → IsTextRefused bytes r.status r.out r.notes → IsFilesReply held p r.status r.out r.notes
  module_refused r refused = replied r (inl refused)

  accepted : (m : Module) → Accepts bytes m → OfText (held p.module) (λ text. (n : Module) × Accepts text n)
  accepted m accepts = of_read (λ text. (n : Module) × Accepts text n) (text_limit + 1) (held p.module) bytes (λ text k. (k.0, accepts_whole text k.0 k.1)) read (m, accepts)

  abbrev IsLaunchOf : List ℕ → Type 0
  IsLaunchOf text = (n : Module) × Accepts text n × OfText (held p.launch) (λ t. (l : Launch) × (LaunchOf n t ≡ Ok l))

  launched : (m : Module) → Accepts bytes m → OfText (held p.launch) (SpellsLaunch m) → OfText (held p.module) IsLaunchOf
  launched m accepts spells = of_read IsLaunchOf (text_limit + 1) (held p.module) bytes (λ text k. (k.0, accepts_whole text k.0 k.1, k.2)) read (m, accepts, spells)

  one_risen : (before between after : List ℕ → ℕ) (m : Module) → ((other : List ℕ) → before other ≤ between other) → Accepts bytes m → HasRisenBehind m held p between after → HasOneRisen held p before after
  one_risen before between after m low accepts (inl launch) = inr (inl (accepted m accepts, rose_before (before p.launch) (between p.launch) (after p.launch) (low p.launch) launch))
  one_risen before between after m low accepts (inr (spells, schedule)) = inr (inr (launched m accepts spells, rose_before (before p.schedule) (between p.schedule) (after p.schedule) (low p.schedule) schedule))

  pub behind_module : (told : List ℕ → Option (List ℕ)) (before between after : List ℕ → ℕ) (m : Module) (reply : Result Reply ReadFault) → ((other : List ℕ) → told other ≡ held other) → ((other : List ℕ) → before other ≤ between other) → Accepts bytes m →
      IfErr reply (λ e. e ≡ Failed → HasRisenBehind m told p between after) → IfErr reply (λ e. e ≡ Failed → HasOneRisen held p before after)
  behind_module told before between after m (Ok r) same low accepts h = tt
  behind_module told before between after m (Err x) same low accepts h =
      let all : told ≡ held = λ i. λ other. same other i in
      λ failed. one_risen before between after m low accepts (subst (λ t. HasRisenBehind m t p between after) all (h failed))

-- ---- statuses

-- a status that no failure has
abbrev pub IsOwn : ℕ → Type 0
IsOwn status = (status ≡ 5 → ⊥) × (status ≡ 6 → ⊥)

own_by : (n status : ℕ) → IsOwn n → status ≡ n → IsOwn status
own_by n status own e = subst IsOwn (sym e) own

end_own : (e : End) → IsOwn (end_status e)
end_own Ended = (λ h. omega arith, λ h. omega arith)
end_own (Trapped thread line trap) = (λ h. omega arith, λ h. omega arith)
end_own Stuck = (λ h. omega arith, λ h. omega arith)
end_own Running = (λ h. omega arith, λ h. omega arith)

two_own : IsOwn 2
two_own = (λ h. omega arith, λ h. omega arith)

three_own : IsOwn 3
three_own = (λ h. omega arith, λ h. omega arith)

four_own : IsOwn 4
four_own = (λ h. omega arith, λ h. omega arith)

from_text : (X : Type 0) (Holds : List ℕ → Type 0) (held : Option (List ℕ)) → ((text : List ℕ) → Holds text → X) → OfText held Holds → X
from_text X Holds None h (text, k) = h text k
from_text X Holds (Some text) h k = h text k

module _ (status : ℕ) (out notes : List ℕ) where
  run_own : (m : Module) (l : Launch) (pairs : List Pair) (x : Result Team ScheduleFault) → IsRunReply m l pairs x status out notes → IsOwn status
  run_own m l pairs (Err fault) h = own_by 4 status four_own h.0
  run_own m l pairs (Ok s) h = own_by (end_status (team_end s)) status (end_own (team_end s)) h.1

  pairs_own : (m : Module) (l : Launch) (x : Result (List Pair) ScheduleFault) → IsPairsReply m l x status out notes → IsOwn status
  pairs_own m l (Err fault) h = own_by 4 status four_own h.0
  pairs_own m l (Ok pairs) h = run_own m l pairs (ReplayOf (machine_off m) l pairs) h

  launch_own : (m : Module) (schedule : Option (List ℕ)) (x : Result Launch LaunchFault) → IsLaunchReply m schedule x status out notes → IsOwn status
  launch_own m schedule (Err fault) h = own_by 4 status four_own h.0
  launch_own m schedule (Ok l) h = from_text (IsOwn status) (λ text. IsScheduleReply m l text status out notes) schedule (λ text k. pairs_own m l (PairsOf text (length (team_start (machine_off m) l).threads)) k) h.1

  module_own : (launch schedule : Option (List ℕ)) (text : List ℕ) → IsTextRefused text status out notes ⊎ IsModuleReply launch schedule text status out notes → IsOwn status
  module_own launch schedule text (inl (r, refusal, none, note)) = own_by 3 status three_own note.0
  module_own launch schedule text (inr (m, accepts, refines, h)) = from_text (IsOwn status) (λ l. IsLaunchReply m schedule (LaunchOf m l) status out notes) launch (λ l k. launch_own m schedule (LaunchOf m l) k) h

  pub answer_own : (paths : Option Paths) (held : List ℕ → Option (List ℕ)) → IsReplayAnswer paths held status out notes → IsOwn status
  answer_own None held h = own_by 2 status two_own h.0
  answer_own (Some p) held h = from_text (IsOwn status) (λ text. IsTextRefused text status out notes ⊎ IsModuleReply (held p.launch) (held p.schedule) text status out notes) (held p.module) (module_own (held p.launch) (held p.schedule)) h

pub is_replay_failure : (paths : Option Paths) (held : List ℕ → Option (List ℕ)) (before after : List ℕ → ℕ) (n : List ℕ) → n ≡ codes "ompopt: input failed\n" → HasFailed paths held before after → IsReplayFailure paths 5 [] n
is_replay_failure None held before after n e h = absurd h
is_replay_failure (Some p) held before after n e h = (refl, refl, e)
