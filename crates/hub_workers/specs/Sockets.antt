-- Faults of accepting a connection, as a server takes them (POSIX, accept).
use Rattle.std.specs.Prelude.{◌≡◌, ◌⊎◌, IfErr, Result}
use Rattle.std.specs.IoError.{error_kind}
use Rattle.std.specs.declared.io.Error.{Error}
use Rattle.std.specs.declared.io.ErrorKind.{ErrorKind}
use Rattle.std.specs.declared.io.ErrorKind.TheVariants.{Interrupted, ConnectionAborted}

-- The next connection may be accepted in spite of such an error: the call was interrupted (EINTR), or the
-- client had gone before it was accepted (ECONNABORTED; POSIX, accept). Where there are too many open files
-- (EMFILE) it may not.
abbrev pub IsPassing : ErrorKind → Type 0
IsPassing kind = (kind ≡ Interrupted) ⊎ (kind ≡ ConnectionAborted)

-- A result without a connection is a fault in spite of which none may be accepted. So a call that was
-- interrupted is made again, and too many open files are an answer.
abbrev pub HasNoPassingFault : {T : Type 0} → Result T Error → Type 0
HasNoPassingFault result = IfErr result (λ e. ¬ IsPassing (error_kind e))
