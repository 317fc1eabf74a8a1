-- What the top call promises where the input can't be had, and where there is an answer.
use Rattle.std.proofs.Common.{◌≡◌, ◌∙◌, ℕ, ◌+◌, ◌<◌, ◌≤◌, Bool, true, false, ◌&&◌, nat_lt, cond, List, [], ◌++◌, length, take, drop, append-nil, IfSome, IfOk, IfErr, Option, Some, None, Result, Ok, Err, refl, sym, ap, inl, inr, subst, arith}
use Rattle.std.proofs.lemmas.Bool.{lt-ltb, le-ltb}
use Rattle.std.proofs.lemmas.List.{take_at}
use Rattle.std.proofs.Math.Seq.{take_all, drop-append_seam}
use Rattle.std.specs.Io.KnownBytes.{Consumes}
use Rattle.std.specs.declared.alloc.AllocError.{AllocError}
use Rattle.io_edge.specs.Causes.{Rose}
use Rattle.io_edge.specs.Gone.{SourceTells, SinkTells, Took}
use Rattle.isa_model.specs.declared.task.Task.{Task}
use Rattle.core_model.specs.declared.loaded.Loaded.{Loaded}
use Rattle.core_model.specs.declared.world.World.{World}
use Rattle.core_model.specs.Security.{IsSecureByOne, IsSecureByTwo}
use Rattle.bundle_text.specs.Lines.{bundle_of}
use Rattle.probing_laws.specs.Certified.{IsCertified}
use Rattle.probing_laws.specs.CertifiedTwo.{IsCertifiedTwo}
use Rattle.probing_laws.specs.declared.verdict.Verdict.{Verdict}
use Rattle.probing_laws.specs.declared.verdict.Verdict.TheVariants.{Secure, Leak}
use Rattle.probing_laws.specs.declared.verdict.CertFault.{CertFault}
use Rattle.probing_laws.specs.declared.verdict.CertFault.TheVariants as faults
use Rattle.probing_laws.specs.declared.verdict.CertFault.TheVariants.{NoWorlds, TooMuch, Uneven, ControlDiffers}
use Rattle.probing_laws.specs.declared.verdict_two.VerdictTwo.{VerdictTwo}
use Rattle.probing_laws.specs.declared.verdict_two.VerdictTwo.TheVariants as two
use Rattle.probing_laws.specs.declared.verdict_two.TwoFault.{TwoFault}
use Rattle.probing_laws.specs.declared.verdict_two.TwoFault.TheVariants as two_faults
use Rattle.kernel_cli.specs.Answer.{Answer, words_refused, done, too_large}
use Rattle.kernel_cli.specs.AnswerOf.{work_answer, answer_of, IsFound}
use Rattle.kernel_cli.specs.Bundles.{LoadAs, loading_answer, bundle_answer, loaded_answer}
use Rattle.kernel_cli.specs.Findings.{Finding, Nothing, Ordered, judgement_in, judgement_by_two_in}
use Rattle.kernel_cli.specs.Lints.{AssembleAs}
use Rattle.kernel_cli.specs.Outcome.{status_of, IsAnswer, IsAnswerByThreads, IsAnswerOver, IsRefusedFor}
use Rattle.kernel_cli.specs.Replays.{order_report}
use Rattle.kernel_cli.specs.Runs.{IsRunOrder, run_answer}
use Rattle.kernel_cli.specs.Security.{IsSecureFor, SecureTasksStaySecure}
use Rattle.kernel_cli.specs.Verdicts.{verdict_answer, verdict_two_answer}
use Rattle.kernel_cli.specs.Works.{harts_of, threads_of, reads, text_limit, limit_of}
use Rattle.kernel_cli.specs.TopCall.{WereLeft, WereGiven, Answers, TookPart, IsCoreSoundFor, BeginsToAnswer, WritesOrFails, HasEnded, IsTooLarge, WasRead, IsReadOut, WasReadFor, TakesAtMost, IsFirstTaskSecure, IsInputSecure, WasInput, IsAnswered}
use Rattle.kernel_cli.specs.declared.answer.Response.{Response}
use Rattle.kernel_cli.specs.declared.answer.Outcome.{Outcome}
use Rattle.kernel_cli.specs.declared.answer.Outcome.TheVariants as outcomes
use Rattle.kernel_cli.specs.declared.status.Status.{Status}
use Rattle.kernel_cli.specs.declared.status.Status.TheVariants as statuses
use Rattle.kernel_cli.specs.declared.status.Status.TheVariants.{Fine, BadWords, BadInput, ReadFault, WriteFault, Memory, LogFull}
use Rattle.kernel_cli.specs.declared.work.Work.{Work}
use Rattle.kernel_cli.specs.declared.work.Work.TheVariants.{Bundle, Code, Generated, Threads}
use Rattle.kernel_cli.specs.declared.work.BundleWork.{BundleWork}
use Rattle.kernel_cli.specs.declared.work.BundleWork.TheVariants.{Alone, Asm, Script, Replay, Explain, Certify, CertifyTwo}
use Rattle.kernel_cli.specs.declared.work.CodeWork.TheVariants.{Lint, LintDrill}
use Rattle.kernel_cli.specs.declared.work.GeneratedWork.{GeneratedWork}
use Rattle.kernel_cli.specs.declared.work.ThreadWork.{ThreadWork}
use Rattle.kernel_cli.specs.declared.work.ThreadWork.TheVariants.{Run}

-- ---- answers over bytes

-- the answer over an input within the limit, and over one above it
pub answer_within : (work : Work) (found : Finding) (bytes : List ℕ) → reads work ≡ true → length bytes ≤ limit_of (Some work)
    → answer_of (Some work) found bytes ≡ work_answer work found bytes
answer_within work found bytes reading within =
    ap (λ (r : Bool). cond (r && nat_lt (limit_of (Some work)) (length bytes)) too_large (work_answer work found bytes)) reading
    ∙ ap (λ (t : Bool). cond t too_large (work_answer work found bytes)) (le-ltb (limit_of (Some work)) (length bytes) within)

answer_above : (work : Work) (found : Finding) (bytes : List ℕ) → reads work ≡ true → limit_of (Some work) < length bytes
    → answer_of (Some work) found bytes ≡ too_large
answer_above work found bytes reading over =
    ap (λ (r : Bool). cond (r && nat_lt (limit_of (Some work)) (length bytes)) too_large (work_answer work found bytes)) reading
    ∙ ap (λ (t : Bool). cond t too_large (work_answer work found bytes)) (lt-ltb (limit_of (Some work)) (length bytes) over)

-- Of an input above the limit nothing is found.
load_as_nothing : (bytes : List ℕ) → text_limit < length bytes → (harts : ℕ) (loaded : Loaded) → LoadAs harts bytes loaded → ⊥
load_as_nothing bytes over harts loaded l = let within = l.within in omega (arith, over, within)

assemble_as_nothing : (bytes : List ℕ) → text_limit < length bytes → (words : List ℕ) → AssembleAs bytes words → ⊥
assemble_as_nothing bytes over words l = let within = l.within in omega (arith, over, within)

found_above : (work : Work) (bytes : List ℕ) → reads work ≡ true → limit_of (Some work) < length bytes → IsFound (Some work) bytes Nothing
found_above (Bundle work) bytes reading over = λ loaded l. absurd (load_as_nothing bytes over (harts_of work) loaded l)
found_above (Code Lint) bytes reading over = λ words l. absurd (assemble_as_nothing bytes over words l)
found_above (Code (LintDrill seed tasks)) bytes reading over = (λ words l. absurd (assemble_as_nothing bytes over words l), λ parts e. absurd (cc e))
found_above (Generated work) bytes reading over = absurd (cc reading)
found_above (Threads work) bytes reading over = λ loaded l. absurd (load_as_nothing bytes over (threads_of work) loaded l)

-- ---- answers over bundles

-- the answer over bytes that load
bundle_loads : (answer : Loaded → Answer) (harts : ℕ) (bytes : List ℕ) (loaded : Loaded) → LoadAs harts bytes loaded
    → bundle_answer answer harts (bundle_of bytes) ≡ answer loaded
bundle_loads answer harts bytes loaded l =
    ap (λ b. bundle_answer answer harts b) l.reads ∙ ap (λ x. loading_answer answer x) l.loads

-- Bytes that are refused load as nothing.
refused_load_as_nothing : (harts : ℕ) (bytes : List ℕ) (response : Response) → IsRefusedFor harts bytes response → (loaded : Loaded)
    → LoadAs harts bytes loaded → ⊥
refused_load_as_nothing harts bytes response r loaded l =
    let answer : Loaded → Answer = λ _. done [] in
    let both : BadInput ≡ Fine =
    sym (ap status_of r.outcome) ∙ (r.answer answer).status ∙ ap (λ (a : Answer). a.status) (bundle_loads answer harts bytes loaded l) in
    absurd (cc both)

-- So the refusal is the answer to a work on one thread, and on threads.
pub over_refused : (work : BundleWork) (bytes : List ℕ) (response : Response) → length bytes ≤ text_limit
    → IsRefusedFor (harts_of work) bytes response → IsAnswerOver (Bundle work) bytes response
over_refused work bytes response within r = (
  Nothing,
  λ loaded l. absurd (refused_load_as_nothing (harts_of work) bytes response r loaded l),
  subst (λ (a : Answer). IsAnswer response a) (sym (answer_within (Bundle work) Nothing bytes refl within)) (r.answer (loaded_answer work Nothing)),
)

pub threads_refused : (work : ThreadWork) (bytes : List ℕ) (response : Response) → length bytes ≤ text_limit
    → IsRefusedFor (threads_of work) bytes response → IsAnswerOver (Threads work) bytes response
threads_refused work bytes response within r = (
  Nothing,
  λ loaded l. absurd (refused_load_as_nothing (threads_of work) bytes response r loaded l),
  subst (λ (a : Answer). IsAnswer response a) (sym (answer_within (Threads work) Nothing bytes refl within)) (r.answer (run_answer work Nothing)),
)

-- The report of a run is the answer to `run`.
pub run_answered : (work : ThreadWork) (loaded : Loaded) (order : List ℕ) (response : Response) → IsRunOrder loaded order
    → IsAnswer response (done (order_report loaded order)) → IsAnswerByThreads work loaded response
run_answered (Run harts) loaded order response is answer = (Ordered order, is, answer)

-- ---- a task that is certified

-- A verdict whose answer is fine says that the task is secure.
fine_is_secure : (T : Task) (worlds : List World) (judgement : Result Verdict CertFault) → IsCertified T worlds judgement
    → (verdict_answer judgement).status ≡ Fine → IsSecureByOne T worlds
fine_is_secure T worlds (Ok (Secure places)) is e = is.1
fine_is_secure T worlds (Ok (Leak step latch a b pair count_a count_b)) is e = absurd (cc e)
fine_is_secure T worlds (Err NoWorlds) is e = absurd (cc e)
fine_is_secure T worlds (Err (TooMuch product)) is e = absurd (cc e)
fine_is_secure T worlds (Err (Uneven a b)) is e = absurd (cc e)
fine_is_secure T worlds (Err (ControlDiffers v w step)) is e = absurd (cc e)
fine_is_secure T worlds (Err faults.Memory) is e = absurd (cc e)

-- So it says by two probes.
fine_is_secure_by_two : (T : Task) (worlds : List World) (judgement : Result VerdictTwo TwoFault) → IsCertifiedTwo T worlds judgement
    → (verdict_two_answer judgement).status ≡ Fine → IsSecureByTwo T worlds
fine_is_secure_by_two T worlds (Ok (two.Secure places)) is e = is.1
fine_is_secure_by_two T worlds (Ok (two.One verdict)) is e = absurd (cc e)
fine_is_secure_by_two T worlds (Ok (two.Leak steps latches a b values count_a count_b)) is e = absurd (cc e)
fine_is_secure_by_two T worlds (Err (two_faults.Cert NoWorlds)) is e = absurd (cc e)
fine_is_secure_by_two T worlds (Err (two_faults.Cert (TooMuch product))) is e = absurd (cc e)
fine_is_secure_by_two T worlds (Err (two_faults.Cert (Uneven a b))) is e = absurd (cc e)
fine_is_secure_by_two T worlds (Err (two_faults.Cert (ControlDiffers v w step))) is e = absurd (cc e)
fine_is_secure_by_two T worlds (Err (two_faults.Cert faults.Memory)) is e = absurd (cc e)
fine_is_secure_by_two T worlds (Err (two_faults.TooMany product)) is e = absurd (cc e)
fine_is_secure_by_two T worlds (Err two_faults.Memory) is e = absurd (cc e)

-- The task is as secure as the work says of which a verdict is fine.
is_certified : (work : BundleWork) (bytes : List ℕ) (found : Finding) → IsFound (Some (Bundle work)) bytes found
    → (answer_of (Some (Bundle work)) found bytes).status ≡ Fine → SecureTasksStaySecure → IsFirstTaskSecure work bytes
is_certified Certify bytes found is fine securing = λ loaded l T at. (let answer : answer_of (Some (Bundle Certify)) found bytes ≡ verdict_answer (judgement_in found) =
    answer_within (Bundle Certify) found bytes refl l.within ∙ bundle_loads (loaded_answer Certify found) 8 bytes loaded l in
    securing.by_one 8 (omega arith, omega arith) bytes loaded l T
    (fine_is_secure T loaded.worlds (judgement_in found) ((is loaded l).certified T at) (sym (ap (λ (a : Answer). a.status) answer) ∙ fine)))
is_certified CertifyTwo bytes found is fine securing = λ loaded l T at. (let answer : answer_of (Some (Bundle CertifyTwo)) found bytes ≡ verdict_two_answer (judgement_by_two_in found) =
    answer_within (Bundle CertifyTwo) found bytes refl l.within ∙ bundle_loads (loaded_answer CertifyTwo found) 8 bytes loaded l in
    securing.by_two 8 (omega arith, omega arith) bytes loaded l T
    (fine_is_secure_by_two T loaded.worlds (judgement_by_two_in found) ((is loaded l).certified T at) (sym (ap (λ (a : Answer). a.status) answer) ∙ fine)))
is_certified Alone bytes found is fine securing = λ loaded l T at. tt
is_certified Asm bytes found is fine securing = λ loaded l T at. tt
is_certified (Script probes) bytes found is fine securing = λ loaded l T at. tt
is_certified (Replay harts probes) bytes found is fine securing = λ loaded l T at. tt
is_certified Explain bytes found is fine securing = λ loaded l T at. tt

-- So it is in the bytes that were told, and in those that were given.
told_secure : (work : BundleWork) (left : Option (List ℕ)) (bytes : List ℕ) → IfSome left (λ told. bytes ≡ told) → IsFirstTaskSecure work bytes
    → IfSome left (IsFirstTaskSecure work)
told_secure work None bytes were secure = tt
told_secure work (Some told) bytes were secure = subst (IsFirstTaskSecure work) were secure

same_rest : (front a b : List ℕ) → front ++ a ≡ front ++ b → a ≡ b
same_rest front a b e = sym (drop-append_seam front a) ∙ ap (λ l. drop (length front) l) e ∙ drop-append_seam front b

for_work : (work : Work) (bytes : List ℕ) (found : Finding) (src src' : SourceTells) → IsFound (Some work) bytes found → SecureTasksStaySecure
    → WereLeft bytes src → src'.given ≡ src.given ++ bytes
    → (judging : BundleWork) → Some work ≡ Some (Bundle judging) → (answer_of (Some work) found bytes).status ≡ Fine → IsInputSecure judging src src'
for_work work bytes found src src' is securing were gave judging e fine =
    let same : work ≡ Bundle judging = cc e in
    let secure = is_certified judging bytes found (subst (λ (w : Work). IsFound (Some w) bytes found) same is)
    (subst (λ (w : Work). (answer_of (Some w) found bytes).status ≡ Fine) same fine) securing in
    record {
      told = told_secure judging src.left bytes were secure;
      gave = λ other also. subst (IsFirstTaskSecure judging) (same_rest src.given bytes other (sym gave ∙ also)) secure;
    }

-- ---- what the source gave

-- too many bytes: all that were left, where they are told, and else those that were given
too_many_of : (limit : ℕ) (left left' : Option (List ℕ)) (given given' bytes : List ℕ)
    → IfSome left (λ told. (limit < length told) × (left' ≡ Some (drop (limit + 1) told)))
    → length bytes ≡ limit + 1 → given' ≡ given ++ bytes → Consumes left left' bytes
    → (all : List ℕ) × IfSome left (λ told. all ≡ told) × (given' ≡ given ++ take (limit + 1) all) × (limit < length all)
too_many_of limit None left' given given' bytes large long gave consumed =
    (bytes, tt, gave ∙ ap (λ l. given ++ l) (sym (take_all (limit + 1) bytes (omega (arith, long)))), omega (arith, long))
too_many_of limit (Some told) None given given' bytes large long gave consumed = absurd consumed
too_many_of limit (Some told) (Some rest) given given' bytes large long gave consumed =
    (told, refl, gave ∙ ap (λ l. given ++ l) (sym (ap (λ l. take (limit + 1) l) consumed ∙ take_at bytes rest (limit + 1) long)), large.0)

too_many : (work : Work) (src src' : SourceTells) → IsTooLarge (limit_of (Some work)) src src'
    → (bytes : List ℕ) × WereLeft bytes src × WereGiven (Some work) bytes src src' × (limit_of (Some work) < length bytes)
too_many work src src' large =
    let gave = large.gave in
    let some = too_many_of (limit_of (Some work)) src.left src'.left src.given src'.given gave.0 large.told gave.1 gave.2.given gave.2.left in
    (some.0, some.1, (λ _. some.2), some.3)

all_written : (work : Work) (src src' : SourceTells) (sink sink' : SinkTells) → reads work ≡ true → IsTooLarge (limit_of (Some work)) src src'
    → Took sink sink' too_large.text → Answers (Some work) BadInput src src' sink sink'
all_written work src src' sink sink' reading large a =
    let some = too_many work src src' large in
    let is = answer_above work Nothing some.0 reading some.3 in
    (some.0, Nothing, some.1, some.2, found_above work some.0 reading some.3, ap (λ x. x.status) is, rw is a)

part_written : (work : Work) (src src' : SourceTells) (sink sink' : SinkTells) → reads work ≡ true → IsTooLarge (limit_of (Some work)) src src'
    → TookPart sink sink' too_large.text → BeginsToAnswer (Some work) src src' sink sink'
part_written work src src' sink sink' reading large a =
    let some = too_many work src src' large in
    let is = answer_above work Nothing some.0 reading some.3 in
    (some.0, Nothing, some.1, some.2, found_above work some.0 reading some.3, rw is a)

-- bytes that may have been left
some_left : (left : Option (List ℕ)) → (bytes : List ℕ) × IfSome left (λ told. bytes ≡ told)
some_left None = ([], tt)
some_left (Some bytes) = (bytes, refl)

-- A source that is left as it is gives nothing.
none_consumed : (left : Option (List ℕ)) → Consumes left left []
none_consumed None = tt
none_consumed (Some bytes) = refl

nothing_taken : (limit : ℕ) (src : SourceTells) → TakesAtMost limit src src
nothing_taken limit src =
    let none = none_consumed src.left in
    record {
      told = ([], omega arith, none);
      gave = ([], omega arith, record { given = sym (append-nil src.given); left = none });
    }

-- All of an input within the limit was given.
all_given : (work : Work) (src src' : SourceTells) (bytes : List ℕ) → WasInput (limit_of (Some work)) src src' bytes → WereGiven (Some work) bytes src src'
all_given work src src' bytes was =
    let within = was.within in
    λ _. was.gave.given ∙ ap (λ l. src.given ++ l) (sym (take_all (limit_of (Some work) + 1) bytes (omega (arith, within))))

-- the statuses of an answer: neither a fault nor a refusal of words
abbrev IsOfAnswer : Status → Type 0
IsOfAnswer Fine = Unit {0}
IsOfAnswer statuses.Verdict = Unit {0}
IsOfAnswer BadInput = Unit {0}
IsOfAnswer LogFull = Unit {0}
IsOfAnswer status = ⊥

of_answer : (outcome : Outcome) → IsOfAnswer (status_of outcome)
of_answer outcomes.Fine = tt
of_answer outcomes.Verdict = tt
of_answer outcomes.BadInput = tt
of_answer outcomes.LogFull = tt

-- The work reads, and what holds of its core, and of a task that is certified.
pub record IsBacked (work : Work) (src : SourceTells) : Type 0 where
  pub reading : reads work ≡ true
  pub cores : IsCoreSoundFor (Some work) src
  pub securing : SecureTasksStaySecure

-- ---- the end of a call

-- Of a source and a sink: what they tell of their bytes, and the faults that they count.
module _ {S K : Type 0} (source : S → SourceTells) (read_faults : S → ℕ) (kept : K → SinkTells) (write_faults : K → ℕ) where
  abbrev IsAnsweredBy : Work → S → S → K → K → Status → Type 0
  IsAnsweredBy work src src' sink sink' status = IsAnswered source read_faults kept write_faults (Some work) src src' sink sink' status

  abbrev IsWritten : Status → List ℕ → K → K → Status → Type 0
  IsWritten asked text sink sink' status = WritesOrFails asked (kept sink) (kept sink') (write_faults sink) (write_faults sink') text status

  -- what a status promises beside what all do
  abbrev Ending : Work → S → S → K → K → Status → Type 0
  Ending work src src' sink sink' BadWords = (Some work ≡ None) × Took (kept sink) (kept sink') words_refused.text
  Ending work src src' sink sink' Fine = IsReadOut (Some work) (source src') × Answers (Some work) Fine (source src) (source src') (kept sink) (kept sink')
  Ending work src src' sink sink' BadInput =
      WasRead (Some work) (source src) (source src') × Answers (Some work) BadInput (source src) (source src') (kept sink) (kept sink')
  Ending work src src' sink sink' LogFull = HasEnded (source src') × Answers (Some work) LogFull (source src) (source src') (kept sink) (kept sink')
  Ending work src src' sink sink' statuses.Verdict =
      HasEnded (source src') × Answers (Some work) statuses.Verdict (source src) (source src') (kept sink) (kept sink')
  Ending work src src' sink sink' ReadFault = Rose (read_faults src) (read_faults src') × (reads work ≡ true) × (sink' ≡ sink)
  Ending work src src' sink sink' WriteFault =
      Rose (write_faults sink) (write_faults sink') × BeginsToAnswer (Some work) (source src) (source src') (kept sink) (kept sink')
      × WasReadFor (Some work) (source src) (source src')
  Ending work src src' sink sink' Memory = sink' ≡ sink

  -- so a call has ended as it promises
  ended : (work : Work) (src src' : S) (sink sink' : K) (status : Status)
      → (reads work ≡ false → src' ≡ src)
      → Ending work src src' sink sink' status
      → IsCoreSoundFor (Some work) (source src)
      → ((judging : BundleWork) → Some work ≡ Some (Bundle judging) → status ≡ Fine → IsInputSecure judging (source src) (source src'))
      → TakesAtMost (limit_of (Some work)) (source src) (source src')
      → IsAnsweredBy work src src' sink sink' status
  ended work src src' sink sink' status unread ending sound certified taken =
      let E : Status → Type 0 = λ s. Ending work src src' sink sink' s in
      record {
        refused = λ e. absurd cc;
        unread = unread;
        bad_words = λ e. subst E e ending;
        fine = λ e. subst E e ending;
        bad_input = λ e. subst E e ending;
        log_full = λ e. subst E e ending;
        verdict = λ e. subst E e ending;
        read_fault = λ e. subst E e ending;
        write_fault = λ e. subst E e ending;
        memory = λ e. subst E e ending;
        cores_sound = sound;
        certified = certified;
        taken = taken;
      }

  -- A text was written with the status that was asked for it, or a part of it.
  ended_by_text : (work : Work) (src src' : S) (sink sink' : K) (asked status : Status) (text : List ℕ)
      → (reads work ≡ false → src' ≡ src)
      → (Took (kept sink) (kept sink') text → Ending work src src' sink sink' asked)
      → (TookPart (kept sink) (kept sink') text → BeginsToAnswer (Some work) (source src) (source src') (kept sink) (kept sink'))
      → WasReadFor (Some work) (source src) (source src')
      → IsCoreSoundFor (Some work) (source src)
      → ((judging : BundleWork) → Some work ≡ Some (Bundle judging) → asked ≡ Fine → IsInputSecure judging (source src) (source src'))
      → TakesAtMost (limit_of (Some work)) (source src) (source src')
      → IsWritten asked text sink sink' status
      → IsAnsweredBy work src src' sink sink' status
  ended_by_text work src src' sink sink' asked status text unread whole part read sound certified taken (inl w) =
      ended work src src' sink sink' status unread (subst (λ (s : Status). Ending work src src' sink sink' s) (sym w.0) (whole w.1)) sound
      (λ judging e fine. certified judging e (sym w.0 ∙ fine)) taken
  ended_by_text work src src' sink sink' asked status text unread whole part read sound certified taken (inr w) =
      ended work src src' sink sink' status unread (subst (λ (s : Status). Ending work src src' sink sink' s) (sym w.0) (w.1, part w.2, read)) sound
      (λ judging e fine. absurd (cc (sym w.0 ∙ fine))) taken

  -- Memory ran out before anything was written.
  without_memory : (work : Work) (src src' : S) (sink sink' : K) (status : Status)
      → (reads work ≡ false → src' ≡ src)
      → IsCoreSoundFor (Some work) (source src)
      → TakesAtMost (limit_of (Some work)) (source src) (source src')
      → (sink' ≡ sink) × (status ≡ Memory)
      → IsAnsweredBy work src src' sink sink' status
  without_memory work src src' sink sink' status unread sound taken none =
      ended work src src' sink sink' status unread (subst (λ (s : Status). Ending work src src' sink sink' s) (sym none.1) none.0) sound
      (λ judging e fine. absurd (cc (sym none.1 ∙ fine))) taken

  pub answered_without_memory : (work : Work) (src src' : S) (sink : K)
      → TakesAtMost (limit_of (Some work)) (source src) (source src')
      → reads work ≡ true
      → IsCoreSoundFor (Some work) (source src)
      → IsAnsweredBy work src src' sink sink Memory
  answered_without_memory work src src' sink taken reading sound =
      without_memory work src src' sink sink Memory (λ e. absurd (cc (sym reading ∙ e))) sound taken (refl, refl)

  -- The source counted a fault.
  pub answered_read_fault : (work : Work) (src src' : S) (sink : K)
      → Rose (read_faults src) (read_faults src')
      → TakesAtMost (limit_of (Some work)) (source src) (source src')
      → reads work ≡ true
      → IsCoreSoundFor (Some work) (source src)
      → IsAnsweredBy work src src' sink sink ReadFault
  answered_read_fault work src src' sink rose taken reading sound =
      ended work src src' sink sink ReadFault (λ e. absurd (cc (sym reading ∙ e))) (rose, reading, refl) sound (λ _ _ fine. absurd (cc fine)) taken

  -- The refusal of too many bytes was written, or a part of it.
  pub answered_too_large : (work : Work) (src src' : S) (sink sink' : K) (status : Status)
      → IsTooLarge (limit_of (Some work)) (source src) (source src')
      → TakesAtMost (limit_of (Some work)) (source src) (source src')
      → IsWritten BadInput too_large.text sink sink' status
      → reads work ≡ true
      → IsCoreSoundFor (Some work) (source src)
      → IsAnsweredBy work src src' sink sink' status
  answered_too_large work src src' sink sink' status large taken written reading sound =
      ended_by_text work src src' sink sink' BadInput status too_large.text (λ e. absurd (cc (sym reading ∙ e)))
      (λ a. (inr large, all_written work (source src) (source src') (kept sink) (kept sink') reading large a))
      (part_written work (source src) (source src') (kept sink) (kept sink') reading large)
      (λ _. inr large) sound (λ _ _ fine. absurd (cc fine)) taken written

  -- what an answer promises, by its status
  of_status : (work : Work) (src src' : S) (sink sink' : K) (asked : Status) → IsOfAnswer asked → HasEnded (source src')
      → Answers (Some work) asked (source src) (source src') (kept sink) (kept sink') → Ending work src src' sink sink' asked
  of_status work src src' sink sink' Fine ok end a = (λ _. end, a)
  of_status work src src' sink sink' statuses.Verdict ok end a = (end, a)
  of_status work src src' sink sink' BadInput ok end a = (inl end, a)
  of_status work src src' sink sink' LogFull ok end a = (end, a)
  of_status work src src' sink sink' BadWords ok end a = absurd ok
  of_status work src src' sink sink' ReadFault ok end a = absurd ok
  of_status work src src' sink sink' WriteFault ok end a = absurd ok
  of_status work src src' sink sink' Memory ok end a = absurd ok

  -- The answer over an input was written, or a part of it.
  answered_by : (work : Work) (src src' : S) (sink sink' : K) (status : Status) (bytes : List ℕ) (response : Response)
      → WasInput (limit_of (Some work)) (source src) (source src') bytes → IsAnswerOver work bytes response
      → IsWritten (status_of response.outcome) response.text.items sink sink' status
      → IsBacked work (source src)
      → IsAnsweredBy work src src' sink sink' status
  answered_by work src src' sink sink' status bytes response was over written backed =
      let given = all_given work (source src) (source src') bytes was in
      let asked = status_of response.outcome in
      let found = over.0 in
      let is = over.2 in
      ended_by_text work src src' sink sink' asked status response.text.items (λ e. absurd (cc (sym backed.reading ∙ e)))
      (λ a. of_status work src src' sink sink' asked (of_answer response.outcome) was.end
      (bytes, found, was.were, given, over.1, sym is.status, subst (λ (text : List ℕ). Took (kept sink) (kept sink') text) is.text a))
      (λ a. (bytes, found, was.were, given, over.1, subst (λ (text : List ℕ). TookPart (kept sink) (kept sink') text) is.text a))
      (λ _. inl was.end) backed.cores
      (λ judging e fine. for_work work bytes found (source src) (source src') over.1 backed.securing was.were was.gave.given judging e (sym is.status ∙ fine)) was.taken written

  -- The end of a work that reads, where its input was had: memory ran out, or its answer was written, or a part of it.
  pub answered_over : (work : Work) (src src' : S) (sink same sink' : K) (status : Status) (bytes : List ℕ) (answer : Result Response AllocError)
      → WasInput (limit_of (Some work)) (source src) (source src') bytes → same ≡ sink
      → IfOk answer (IsAnswerOver work bytes)
      → IfOk answer (λ response. IsWritten (status_of response.outcome) response.text.items same sink' status)
      → IfErr answer (λ _. (sink' ≡ same) × (status ≡ Memory))
      → IsBacked work (source src)
      → IsAnsweredBy work src src' sink sink' status
  answered_over work src src' sink same sink' status bytes (Ok response) was left over written memory backed =
      answered_by work src src' sink sink' status bytes response was over
      (subst (λ (k : K). IsWritten (status_of response.outcome) response.text.items k sink' status) left written) backed
  answered_over work src src' sink same sink' status bytes (Err error) was left over written memory backed =
      without_memory work src src' sink sink' status (λ e. absurd (cc (sym backed.reading ∙ e))) backed.cores was.taken
      (subst (λ (k : K). (sink' ≡ k) × (status ≡ Memory)) left memory)

  -- The end of a work that doesn't read: memory ran out, or its answer was written, which is fine, or a part of it.
  pub answered_generated : (work : GeneratedWork) (src : S) (sink sink' : K) (status : Status) (answer : Result Response AllocError)
      → IfOk answer (λ response. (bytes : List ℕ) → IsAnswerOver (Generated work) bytes response)
      → IfOk answer (λ response. response.outcome ≡ outcomes.Fine)
      → IfOk answer (λ response. IsWritten (status_of response.outcome) response.text.items sink sink' status)
      → IfErr answer (λ _. (sink' ≡ sink) × (status ≡ Memory))
      → IsCoreSoundFor (Some (Generated work)) (source src)
      → IsAnsweredBy (Generated work) src src sink sink' status
  answered_generated work src sink sink' status (Ok response) over fine written memory sound =
      let some = some_left (source src).left in
      let is = over some.0 in
      let unread : (judging : BundleWork) → Some (Generated work) ≡ Some (Bundle judging) → ⊥ = λ judging e. absurd (cc e) in
      let asked : status_of response.outcome ≡ Fine = ap status_of fine in
      ended_by_text (Generated work) src src sink sink' Fine status response.text.items (λ _. refl)
      (λ a. (
        λ reading. absurd (cc reading),
        (
          some.0,
          is.0,
          some.1,
          λ reading. absurd (cc reading),
          is.1,
          sym is.2.status ∙ asked,
          subst (λ (text : List ℕ). Took (kept sink) (kept sink') text) is.2.text a,
        ),
      ))
      (λ a. (
        some.0,
        is.0,
        some.1,
        λ reading. absurd (cc reading),
        is.1,
        subst (λ (text : List ℕ). TookPart (kept sink) (kept sink') text) is.2.text a,
      ))
      (λ reading. absurd (cc reading)) sound (λ judging e _. absurd (unread judging e)) (nothing_taken 0 (source src))
      (subst (λ (s : Status). IsWritten s response.text.items sink sink' status) asked written)
  answered_generated work src sink sink' status (Err error) over fine written memory sound =
      without_memory (Generated work) src src sink sink' status (λ _. refl) sound (nothing_taken 0 (source src)) memory
