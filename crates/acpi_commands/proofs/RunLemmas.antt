-- What follows from what a run did.
use Rattle.std.proofs.Common.{◌≡◌, ℕ, ◌+◌, ◌≤◌, inl, inr, All, List, [], ◌∷◌, ◌++◌, length, reverse, Option, None, Some, Ok, Err, String, Global, refl, sym, ap, ◌∙◌, subst, arith, length-append}
use Rattle.std.specs.Io.KnownBytes.{Consumes, IsAtEnd}
use Rattle.std.proofs.lemmas.List.{append-nil}
use Rattle.acpi_regs.specs.declared.entry.Entry.{Entry}
use Rattle.history_text.specs.Lines.{IsReadBack}
use Rattle.history_text.specs.Named.{IsEntry}
use Rattle.machine_desc.specs.Machine.{MachineData}
use Rattle.machine_history.specs.Complete.{Complete}
use Rattle.machine_history.specs.Exclusion.{AccessesByOwner, ReadsLast}
use Rattle.machine_history.specs.Jobs.{jobs}
use Rattle.history_laws.specs.Once.{JobsOnce, ScriptsOnce}
use Rattle.machine_history.specs.Sentences.{ClaimsConsume, CodesInOrder, JobsDone, RunsAsGiven, codes_of, out_in}
use Rattle.machine_history.specs.Wire.{given}
use Rattle.machine_reader.specs.declared.fault.ReaderFault.{ReaderFault}
use Rattle.machine_reader.specs.declared.fault.ReaderFault.TheVariants as fault
use Rattle.machine_reader.specs.Description.{Describes}
use Rattle.acpi_commands.specs.declared.command.Command.{Command}
use Rattle.acpi_commands.specs.declared.command.Command.TheVariants as command
use Rattle.acpi_commands.specs.declared.command.Task.{Task}
use Rattle.acpi_commands.specs.declared.command.Task.TheVariants as task
use Rattle.acpi_commands.specs.declared.status.Status.{Status}
use Rattle.acpi_commands.specs.declared.status.Status.TheVariants as status
use Rattle.acpi_commands.specs.Headline.{OneRunEach, Ran}
use Rattle.acpi_commands.specs.Check.{FromLog, IsCompleteLog}
use Rattle.acpi_commands.specs.Run.{Answers, ByCommand, ByTask, Completes, Does, FromBytes, IsOkOrMemory, IsTaken, ReadsWhole, Refuses, Summarizes, status_of, text}
use Rattle.acpi_commands.specs.Words.{IsCommand, limit_of, word_of}
use Rattle.history_text.proofs.Described.{not_refused}
use Rattle.acpi_commands.proofs.Checks.{IsDone, log_done}

-- ---- the sentences of the headline

-- no code waits, and no query is open
one_run : (m : MachineData) (history : List Entry) → Complete m history → CodesInOrder history → RunsAsGiven m (reverse history) → OneRunEach m history
one_run m history complete pushed runs = record {
  all_given = pushed ∙ (ap (λ rest. given (reverse history) ++ rest) complete.rest.no_code ∙ append-nil (given (reverse history)));
  each_run = runs ∙ (ap (λ o. codes_of (jobs m (reverse history)) ++ out_in o) complete.rest.none_open ∙ append-nil (codes_of (jobs m (reverse history))));
}

-- a complete history of the machine that bytes describe
pub ran : (bytes : List ℕ) (m : MachineData) (history : List Entry) → Describes bytes (Ok m) → Complete m history → ScriptsOnce m history → JobsOnce m history → JobsDone m history → ReadsLast m history → AccessesByOwner m history → CodesInOrder history → RunsAsGiven m (reverse history) → ClaimsConsume m history → Ran bytes m history
ran bytes m history describes complete scripts_once jobs_once jobs_done last owner pushed runs consumes = record {
  describes = describes;
  complete = complete;
  scripts_once = scripts_once;
  jobs_once = jobs_once;
  jobs_done = jobs_done;
  last_value = last;
  sole_owner = owner;
  one_run = one_run m history complete pushed runs;
  consumes = consumes;
}

-- its text is a log which `check` takes for complete
pub complete_log : (m : MachineData) (history : List Entry) → IsReadBack m → All IsEntry history → Complete m history → IsCompleteLog (text m history) m history
complete_log m history read_back named complete = record { text_is = refl; read_back = read_back; named = named; complete = complete }

-- ---- from the bytes to the command

-- a status that rests on bytes which were read whole: of a description
by_run : (c : Task) (sink_kept : Type 0) (left left' held held' : Option (List ℕ)) (bytes : List ℕ) (s : Status) → ((t : Status) → FromBytes c bytes sink_kept held held' t → Does c bytes sink_kept held held' t) → ReadsWhole (limit_of c) left left' bytes → FromBytes c bytes sink_kept held held' s → ByTask c sink_kept left left' held held' s
by_run c sink_kept left left' held held' bytes status.ReadFault does whole from = absurd from.1
by_run c sink_kept left left' held held' bytes status.TooLarge does whole from = absurd from.1
by_run c sink_kept left left' held held' bytes status.Memory does whole from = (from.0, (bytes, whole.0, whole.1))
by_run c sink_kept left left' held held' bytes status.Ok does whole from = (bytes, whole, does status.Ok from)
by_run c sink_kept left left' held held' bytes status.Usage does whole from = (bytes, whole, does status.Usage from)
by_run c sink_kept left left' held held' bytes status.NotJson does whole from = (bytes, whole, does status.NotJson from)
by_run c sink_kept left left' held held' bytes (status.BadShape path) does whole from = (bytes, whole, does (status.BadShape path) from)
by_run c sink_kept left left' held held' bytes (status.BadMachine bad) does whole from = (bytes, whole, does (status.BadMachine bad) from)
by_run c sink_kept left left' held held' bytes (status.TooLong weight) does whole from = (bytes, whole, does (status.TooLong weight) from)
by_run c sink_kept left left' held held' bytes status.WriteFault does whole from = (bytes, whole, does status.WriteFault from)
by_run c sink_kept left left' held held' bytes (status.Illegal line broken) does whole from = absurd from.1
by_run c sink_kept left left' held held' bytes (status.Unfinished a) does whole from = absurd from.1
by_run c sink_kept left left' held held' bytes (status.BadLog n) does whole from = absurd from.1

-- and of a log
by_check : (sink_kept : Type 0) (left left' held held' : Option (List ℕ)) (bytes : List ℕ) (s : Status) → ReadsWhole (limit_of task.Check) left left' bytes → FromLog bytes sink_kept held held' s → ByTask task.Check sink_kept left left' held held' s
by_check sink_kept left left' held held' bytes status.ReadFault whole from = absurd from.1
by_check sink_kept left left' held held' bytes status.TooLarge whole from = absurd from.1
by_check sink_kept left left' held held' bytes status.Memory whole from = (from.0, (bytes, whole.0, whole.1))
by_check sink_kept left left' held held' bytes status.Ok whole from = (bytes, whole, from)
by_check sink_kept left left' held held' bytes status.WriteFault whole from = (bytes, whole, from)
by_check sink_kept left left' held held' bytes (status.Illegal line broken) whole from = (bytes, whole, from)
by_check sink_kept left left' held held' bytes (status.Unfinished a) whole from = (bytes, whole, from)
by_check sink_kept left left' held held' bytes (status.BadLog n) whole from = (bytes, whole, from)
by_check sink_kept left left' held held' bytes status.Usage whole from = absurd from.1
by_check sink_kept left left' held held' bytes status.NotJson whole from = absurd from.1
by_check sink_kept left left' held held' bytes (status.BadShape path) whole from = absurd from.1
by_check sink_kept left left' held held' bytes (status.BadMachine bad) whole from = absurd from.1
by_check sink_kept left left' held held' bytes (status.TooLong weight) whole from = absurd from.1

pub by_task : (c : Task) (sink_kept : Type 0) (left left' held held' : Option (List ℕ)) (bytes : List ℕ) (s : Status) → ReadsWhole (limit_of c) left left' bytes → Does c bytes sink_kept held held' s → ByTask c sink_kept left left' held held' s
by_task task.Run sink_kept left left' held held' bytes s whole does = by_run task.Run sink_kept left left' held held' bytes s (λ t from. from) whole does
by_task task.Replay sink_kept left left' held held' bytes s whole does = by_run task.Replay sink_kept left left' held held' bytes s (λ t from. from) whole does
by_task task.Check sink_kept left left' held held' bytes s whole does = by_check sink_kept left left' held held' bytes s whole does

no_usage : (c : Command) (source_kept sink_kept : Type 0) (left left' held held' : Option (List ℕ)) → ByCommand c source_kept sink_kept left left' held held' status.Usage → ⊥
no_usage (command.Read task.Run) source_kept sink_kept left left' held held' by = by.2.1
no_usage (command.Read task.Replay) source_kept sink_kept left left' held held' by = by.2.1
no_usage (command.Read task.Check) source_kept sink_kept left left' held held' by = by.2.1
no_usage (command.Make number size) source_kept sink_kept left left' held held' by = by.1

pub answered : (words : List (String Global)) (source_kept sink_kept : Type 0) (left left' held held' : Option (List ℕ)) (c : Command) (s : Status) → IsCommand words c → ByCommand c source_kept sink_kept left left' held held' s → Answers words source_kept sink_kept left left' held held' s
answered words source_kept sink_kept left left' held held' c status.Usage is by = absurd (no_usage c source_kept sink_kept left left' held held' by)
answered words source_kept sink_kept left left' held held' c status.Memory is by = inr (c, is, by)
answered words source_kept sink_kept left left' held held' c status.Ok is by = (c, is, by)
answered words source_kept sink_kept left left' held held' c status.NotJson is by = (c, is, by)
answered words source_kept sink_kept left left' held held' c (status.BadShape path) is by = (c, is, by)
answered words source_kept sink_kept left left' held held' c (status.BadMachine bad) is by = (c, is, by)
answered words source_kept sink_kept left left' held held' c (status.TooLong weight) is by = (c, is, by)
answered words source_kept sink_kept left left' held held' c status.ReadFault is by = (c, is, by)
answered words source_kept sink_kept left left' held held' c status.WriteFault is by = (c, is, by)
answered words source_kept sink_kept left left' held held' c status.TooLarge is by = (c, is, by)
answered words source_kept sink_kept left left' held held' c (status.Illegal line broken) is by = (c, is, by)
answered words source_kept sink_kept left left' held held' c (status.Unfinished a) is by = (c, is, by)
answered words source_kept sink_kept left left' held held' c (status.BadLog n) is by = (c, is, by)

-- all bytes that a source tells were read
whole_is : (bytes read : List ℕ) (left left' : Option (List ℕ)) → left ≡ Some bytes → Consumes left left' read → IsAtEnd left' → bytes ≡ read
whole_is bytes read None left' told consumed end = cc
whole_is bytes read (Some xs) None told consumed end = absurd consumed
whole_is bytes read (Some xs) (Some ys) told consumed end =
    let same : xs ≡ bytes = cc in
    sym same ∙ (consumed ∙ (ap (λ rest. read ++ rest) end ∙ append-nil read))

-- no more bytes were taken than a source tells
taken_within : (bytes taken : List ℕ) (left left' : Option (List ℕ)) → left ≡ Some bytes → Consumes left left' taken → length taken ≤ length bytes
taken_within bytes taken None left' told consumed = cc
taken_within bytes taken (Some xs) None told consumed = absurd consumed
taken_within bytes taken (Some xs) (Some ys) told consumed =
    let same : xs ≡ bytes = cc in
    let size : length bytes ≡ length (taken ++ ys) = ap length (sym same ∙ consumed) in
    omega (arith, length-append taken ys)

too_many : (taken bytes most : ℕ) → taken ≡ most + 1 → taken ≤ bytes → bytes ≤ most → ⊥
too_many taken bytes most exact within few = omega arith

-- ---- one command

some_word : (x y : List ℕ) → x ∷ [] ≡ y ∷ [] → x ≡ y
some_word x y same = cc

one_word : (c d : Task) → word_of c ≡ word_of d → c ≡ d
one_word task.Run task.Run same = refl
one_word task.Replay task.Replay same = refl
one_word task.Check task.Check same = refl
one_word task.Run task.Replay same = cc
one_word task.Run task.Check same = cc
one_word task.Replay task.Run same = cc
one_word task.Replay task.Check same = cc
one_word task.Check task.Run same = cc
one_word task.Check task.Replay same = cc

one_task : (words : List (String Global)) (c d : Task) → IsCommand words (command.Read c) → IsCommand words (command.Read d) → c ≡ d
one_task words c d one other = one_word c d (some_word (word_of c) (word_of d) (sym one.0 ∙ other.0))

not_both : {X : Type 0} (words : List (String Global)) (c : Task) (number size : ℕ) → IsCommand words (command.Read c) → IsCommand words (command.Make number size) → X
not_both words c number size one other = absurd (let count = ap length (sym one.0 ∙ other.0) in omega arith)

-- why the bytes of a machine are not taken: want of memory alone
taken : (c : Task) (bytes : List ℕ) (m : MachineData) (sink_kept : Type 0) (held held' : Option (List ℕ)) (s : Status) → Describes bytes (Ok m) → FromBytes c bytes sink_kept held held' s → IsDone s
taken c bytes m sink_kept held held' status.NotJson describes from = absurd (from.1 describes.0 describes.1)
taken c bytes m sink_kept held held' (status.BadShape path) describes from = absurd (not_refused bytes m (fault.BadShape path) describes from.1)
taken c bytes m sink_kept held held' (status.BadMachine bad) describes from = absurd (not_refused bytes m (fault.BadMachine bad) describes from.1)
taken c bytes m sink_kept held held' (status.TooLong weight) describes from = absurd (not_refused bytes m (fault.TooLong weight) describes from.1)
taken c bytes m sink_kept held held' status.Memory describes from = inr (inl refl)
taken c bytes m sink_kept held held' status.Ok describes from = inl refl
taken c bytes m sink_kept held held' status.WriteFault describes from = inr (inr refl)
taken c bytes m sink_kept held held' _ describes from = absurd from.1

-- what a command takes it does, but for want of memory and a failed write
fulfilled : (c : Task) (bytes : List ℕ) (sink_kept : Type 0) (held held' : Option (List ℕ)) (s : Status) → length bytes ≤ limit_of c → IsTaken c bytes → Does c bytes sink_kept held held' s → IsDone s
fulfilled task.Run bytes sink_kept held held' s few takes does = taken task.Run bytes takes.0 sink_kept held held' s takes.1 does
fulfilled task.Replay bytes sink_kept held held' s few takes does = taken task.Replay bytes takes.0 sink_kept held held' s takes.1 does
fulfilled task.Check bytes sink_kept held held' s few takes does = log_done bytes takes.0 takes.1 sink_kept held held' s few takes.2 does

-- the status of a fault of the reader refuses the bytes
pub refused : (bytes : List ℕ) (f : ReaderFault) → Describes bytes (Err f) → Refuses bytes (status_of f)
refused bytes fault.NotJson describes = describes
refused bytes (fault.BadShape path) describes = describes
refused bytes (fault.BadMachine bad) describes = describes
refused bytes (fault.TooLong weight) describes = describes
refused bytes fault.Memory describes = describes

-- each status has its cause, so what is accepted is done
pub completes : (words : List (String Global)) (source_kept sink_kept read_rose write_rose : Type 0) (left left' held held' : Option (List ℕ)) (s : Status) → Answers words source_kept sink_kept left left' held held' s → (s ≡ status.ReadFault → read_rose) → (s ≡ status.WriteFault → write_rose) → Completes words left read_rose write_rose s
completes words source_kept sink_kept read_rose write_rose left left' held held' s answers read_cause write_cause = record {
  reads = λ t bytes is told few takes no_read no_write. by_reading s answers read_cause write_cause t bytes is told few takes no_read no_write;
  makes = λ number size is no_write. by_making s answers write_cause number size is no_write;
}
  where
    unless_fault : (s : Status) → (write_rose → ⊥) → (s ≡ status.WriteFault → write_rose) → IsDone s → IsOkOrMemory s
    unless_fault s no_write cause (inl ok) = inl ok
    unless_fault s no_write cause (inr (inl memory)) = inr memory
    unless_fault s no_write cause (inr (inr fault)) = absurd (no_write (cause fault))

    -- what was done is what the command does that the words are
    its_task : (s : Status) (t : Task) (c : Command) → IsCommand words (command.Read t) → IsCommand words c → ByCommand c source_kept sink_kept left left' held held' s → ByTask t sink_kept left left' held held' s
    its_task s t (command.Read d) is by done = subst (λ x. ByTask x sink_kept left left' held held' s) (one_task words d t by is) done
    its_task s t (command.Make number size) is by done = not_both words t number size is by

    -- the bytes that were read are those that the source tells
    from_read : (s : Status) (t : Task) (bytes : List ℕ) → left ≡ Some bytes → length bytes ≤ limit_of t → IsTaken t bytes → (read : List ℕ) → ReadsWhole (limit_of t) left left' read → Does t read sink_kept held held' s → IsDone s
    from_read s t bytes told few takes read whole does =
        let same = whole_is bytes read left left' told whole.1 whole.2 in
        fulfilled t read sink_kept held held' s (subst (λ b. length b ≤ limit_of t) same few) (subst (IsTaken t) same takes) does

    too_long : (t : Task) (bytes : List ℕ) → left ≡ Some bytes → length bytes ≤ limit_of t → (read : List ℕ) → length read ≡ limit_of t + 1 → Consumes left left' read → ⊥
    too_long t bytes told few read exact consumed = too_many (length read) (length bytes) (limit_of t) exact (taken_within bytes read left left' told consumed) few

    by_reading : (s : Status) → Answers words source_kept sink_kept left left' held held' s → (s ≡ status.ReadFault → read_rose) → (s ≡ status.WriteFault → write_rose) → (t : Task) (bytes : List ℕ) → IsCommand words (command.Read t) → left ≡ Some bytes → length bytes ≤ limit_of t → IsTaken t bytes → (read_rose → ⊥) → (write_rose → ⊥) → IsOkOrMemory s
    by_reading status.Ok answers read_cause write_cause t bytes is told few takes no_read no_write = inl refl
    by_reading status.Usage answers read_cause write_cause t bytes is told few takes no_read no_write = absurd (answers.0 (command.Read t) is)
    by_reading status.ReadFault answers read_cause write_cause t bytes is told few takes no_read no_write = absurd (no_read (read_cause refl))
    by_reading status.WriteFault answers read_cause write_cause t bytes is told few takes no_read no_write = absurd (no_write (write_cause refl))
    by_reading status.Memory answers read_cause write_cause t bytes is told few takes no_read no_write = inr refl
    by_reading status.TooLarge answers read_cause write_cause t bytes is told few takes no_read no_write =
        let done = its_task status.TooLarge t answers.0 is answers.1 answers.2 in
        absurd (too_long t bytes told few done.1.0 done.1.1 done.1.2)
    by_reading status.NotJson answers read_cause write_cause t bytes is told few takes no_read no_write =
        let done = its_task status.NotJson t answers.0 is answers.1 answers.2 in
        unless_fault status.NotJson no_write write_cause (from_read status.NotJson t bytes told few takes done.0 done.1 done.2)
    by_reading (status.BadShape path) answers read_cause write_cause t bytes is told few takes no_read no_write =
        let done = its_task (status.BadShape path) t answers.0 is answers.1 answers.2 in
        unless_fault (status.BadShape path) no_write write_cause (from_read (status.BadShape path) t bytes told few takes done.0 done.1 done.2)
    by_reading (status.BadMachine bad) answers read_cause write_cause t bytes is told few takes no_read no_write =
        let done = its_task (status.BadMachine bad) t answers.0 is answers.1 answers.2 in
        unless_fault (status.BadMachine bad) no_write write_cause (from_read (status.BadMachine bad) t bytes told few takes done.0 done.1 done.2)
    by_reading (status.TooLong weight) answers read_cause write_cause t bytes is told few takes no_read no_write =
        let done = its_task (status.TooLong weight) t answers.0 is answers.1 answers.2 in
        unless_fault (status.TooLong weight) no_write write_cause (from_read (status.TooLong weight) t bytes told few takes done.0 done.1 done.2)
    by_reading (status.Illegal line broken) answers read_cause write_cause t bytes is told few takes no_read no_write =
        let done = its_task (status.Illegal line broken) t answers.0 is answers.1 answers.2 in
        unless_fault (status.Illegal line broken) no_write write_cause (from_read (status.Illegal line broken) t bytes told few takes done.0 done.1 done.2)
    by_reading (status.Unfinished a) answers read_cause write_cause t bytes is told few takes no_read no_write =
        let done = its_task (status.Unfinished a) t answers.0 is answers.1 answers.2 in
        unless_fault (status.Unfinished a) no_write write_cause (from_read (status.Unfinished a) t bytes told few takes done.0 done.1 done.2)
    by_reading (status.BadLog n) answers read_cause write_cause t bytes is told few takes no_read no_write =
        let done = its_task (status.BadLog n) t answers.0 is answers.1 answers.2 in
        unless_fault (status.BadLog n) no_write write_cause (from_read (status.BadLog n) t bytes told few takes done.0 done.1 done.2)

    summarized : (s : Status) (number size : ℕ) → Summarizes number size sink_kept held held' s → IsDone s
    summarized status.Ok number size made = inl refl
    summarized status.Memory number size made = inr (inl refl)
    summarized status.WriteFault number size made = inr (inr refl)
    summarized _ number size made = absurd made

    made : (s : Status) (number size : ℕ) (c : Command) → IsCommand words (command.Make number size) → IsCommand words c → ByCommand c source_kept sink_kept left left' held held' s → IsDone s
    made s number size (command.Read t) is by done = not_both words t number size by is
    made s number size (command.Make other large) is by done = summarized s other large done.1

    by_making : (s : Status) → Answers words source_kept sink_kept left left' held held' s → (s ≡ status.WriteFault → write_rose) → (number size : ℕ) → IsCommand words (command.Make number size) → (write_rose → ⊥) → IsOkOrMemory s
    by_making status.Usage answers write_cause number size is no_write = absurd (answers.0 (command.Make number size) is)
    by_making status.Memory answers write_cause number size is no_write = inr refl
    by_making status.Ok answers write_cause number size is no_write = unless_fault status.Ok no_write write_cause (made status.Ok number size answers.0 is answers.1 answers.2)
    by_making status.ReadFault answers write_cause number size is no_write = unless_fault status.ReadFault no_write write_cause (made status.ReadFault number size answers.0 is answers.1 answers.2)
    by_making status.WriteFault answers write_cause number size is no_write = unless_fault status.WriteFault no_write write_cause (made status.WriteFault number size answers.0 is answers.1 answers.2)
    by_making status.TooLarge answers write_cause number size is no_write = unless_fault status.TooLarge no_write write_cause (made status.TooLarge number size answers.0 is answers.1 answers.2)
    by_making status.NotJson answers write_cause number size is no_write = unless_fault status.NotJson no_write write_cause (made status.NotJson number size answers.0 is answers.1 answers.2)
    by_making (status.BadShape path) answers write_cause number size is no_write = unless_fault (status.BadShape path) no_write write_cause (made (status.BadShape path) number size answers.0 is answers.1 answers.2)
    by_making (status.BadMachine bad) answers write_cause number size is no_write = unless_fault (status.BadMachine bad) no_write write_cause (made (status.BadMachine bad) number size answers.0 is answers.1 answers.2)
    by_making (status.TooLong weight) answers write_cause number size is no_write = unless_fault (status.TooLong weight) no_write write_cause (made (status.TooLong weight) number size answers.0 is answers.1 answers.2)
    by_making (status.Illegal line broken) answers write_cause number size is no_write = unless_fault (status.Illegal line broken) no_write write_cause (made (status.Illegal line broken) number size answers.0 is answers.1 answers.2)
    by_making (status.Unfinished a) answers write_cause number size is no_write = unless_fault (status.Unfinished a) no_write write_cause (made (status.Unfinished a) number size answers.0 is answers.1 answers.2)
    by_making (status.BadLog n) answers write_cause number size is no_write = unless_fault (status.BadLog n) no_write write_cause (made (status.BadLog n) number size answers.0 is answers.1 answers.2)
