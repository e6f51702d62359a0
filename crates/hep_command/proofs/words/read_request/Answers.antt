use Rattle.std.proofs.Common.{◌≡◌, ◌⊎◌, ◌∙◌, ℕ, Bool, List, Option, Some, Result, Ok, Err, IfOk, IfErr, map, inl, inr, sym}
use Rattle.clap.specs.Words.{Text, subcommand_rows_of}
use Rattle.hep_command.specs.Asked.{RequestedJob, asked_by, color_in, is_long_in, job_in, words_found, histories_in}
use Rattle.hep_command.specs.Jobs.{IsWant}
use Rattle.hep_command.specs.Program.{IsAskedBy, IsMistaken, IsStatusFor, asked, color, is_long, histories}
use Rattle.hep_command.specs.declared.job.ColorWhen.{ColorWhen}
use Rattle.hep_command.specs.declared.job.Request.{Request}
use Rattle.hep_command.specs.declared.job.Usage.{Usage}
use Rattle.hep_command.proofs.ProgramLemmas.{color_in-color, histories_in-histories, is_long_in-is_long, job_in-asked, refused_status, taken_status}
use Rattle.hep_command.proofs.words.read_request.Goals as goal

-- a request has the job and the options that the words ask for
asked_by_words : (r : Result Request Usage) (words : List Text) (job : Option RequestedJob) (long : Bool) (when : ColorWhen) (kept : List Text)
    → job ≡ asked words → long ≡ is_long words → when ≡ color words → kept ≡ histories words
    → IfOk r (λ q. job ≡ Some (asked_by q.job)) → IfOk r (λ q. q.long ≡ long) → IfOk r (λ q. q.color ≡ when)
    → IfOk r (λ q. map (λ h. h.now) q.histories.items ≡ kept) → IfOk r (IsAskedBy words)
asked_by_words (Ok q) words job long when kept job_is long_is when_is kept_are by_job by_long by_color by_kept =
    (sym job_is ∙ by_job, by_long ∙ long_is, by_color ∙ when_is, by_kept ∙ kept_are)
asked_by_words (Err e) words job long when kept job_is long_is when_is kept_are by_job by_long by_color by_kept = tt

status_of_mistake : (r : Result Request Usage) (found : Option RequestedJob) (P : ℕ → Type 0) → ((n : ℕ) → (n ≡ 7) ⊎ ((n ≡ 2) × IsMistaken found) → P n)
    → IfErr r (λ usage. IsWant usage ⊎ ((usage.status ≡ 2) × IsMistaken found)) → IfErr r (λ usage. P usage.status)
status_of_mistake (Ok q) found P by h = tt
status_of_mistake (Err usage) found P by (inl want) = by usage.status (inl want.0)
status_of_mistake (Err usage) found P by (inr mistake) = by usage.status (inr mistake)

pub returns-in-Ok-matches_of-clause-asked : goal.returns-in-Ok-matches_of-clause-asked
returns-in-Ok-matches_of-clause-asked g c =
    let words = map g.S.AsStr.text c.args.words.now in
    let program = c.in-Ok.program in
    let matches = c.in-Ok-matches_of.matches in
    let rows = subcommand_rows_of matches in
    let is = c.in-Ok.ensures in
    let found = c.in-Ok-matches_of.ensures.matches in
    let asked_for = c.request_of.ensures in
    asked_by_words c.request_of.result words (job_in rows) (is_long_in (words_found matches) rows) (color_in rows) (histories_in rows)
    (job_in-asked program matches words is found) (is_long_in-is_long program matches words is found) (color_in-color program matches words is found)
    (histories_in-histories program matches words is found)
    asked_for.asked asked_for.long asked_for.color asked_for.histories

pub returns-in-Ok-matches_of-clause-status : goal.returns-in-Ok-matches_of-clause-status
returns-in-Ok-matches_of-clause-status g c =
    let words = map g.S.AsStr.text c.args.words.now in
    let program = c.in-Ok.program in
    let matches = c.in-Ok-matches_of.matches in
    let job = job_in (subcommand_rows_of matches) in
    let found = c.in-Ok-matches_of.ensures.matches in
    let none = c.in-Ok-matches_of.ensures.kinds in
    status_of_mistake c.request_of.result job (λ n. (n ≡ 7) ⊎ IsStatusFor words n)
    (λ n. taken_status program words job n c.in-Ok.ensures (job_in-asked program matches words c.in-Ok.ensures found) none) c.request_of.ensures.mistake

pub returns-in-Err-matches_of-clause-status : goal.returns-in-Err-matches_of-clause-status
returns-in-Err-matches_of-clause-status g c =
    let words = map g.S.AsStr.text c.args.words.now in
    let program = c.in-Ok.program in
    let refused = c.in-Err-matches_of in
    refused_status program words refused.error c.usage_of.result.status c.in-Ok.ensures refused.ensures.kinds c.usage_of.ensures.status
